-- The next outputs of a section in Q15, in lanes of 32 bits: a sum of five products has up to 34 bits, and
-- is the sum of its high halves times 2^16, and a rest.
use Rattle.std.proofs.Common.{ℕ, ◌≡◌, ◌<◌, ◌≤◌, ◌+◌, ◌-◌, ◌*◌, ◌/◌, ◌^◌, sym, ap, subst, ◌∙◌, arith, w32}
use Rattle.std.proofs.lemmas.Int.{ints, int_wrap_fits, int_wrap-add_left, int_wrap-sub_right}
use Rattle.std.proofs.lemmas.Nat.{div-add-mod'}
use Rattle.std.specs.Prelude.{ℤ, pos, negsuc, ◌+ℤ◌, ◌-ℤ◌, ◌*ℤ◌, ◌≤ℤ◌}
use Rattle.std.specs.Int.{int_wrap}
use native.Mathlib.Nat.{mul-le-mul_left}
use lib.Pow.{pow_pos}
use lib.Signed.{shr_z}
use mir.Val.{SFits}
use Rattle.dsp_sections.proofs.FloorShifts.{floor_parts}
use Rattle.dsp_lanes.proofs.ProductPairs.{IsSmall, less_fits}
use Rattle.dsp_lanes.proofs.Fractions.{floored}

abbrev half : ℤ → ℤ
half z = shr_z z (2 ^ 16)

-- a number less 1, as a lane has it
abbrev less_one : ℤ → ℤ
less_one z = int_wrap w32 (z +ℤ negsuc 0)

-- the sums of a lane, as the code makes them
abbrev pair_lane : ℤ → ℤ → ℤ
pair_lane p q = int_wrap w32 (p +ℤ q)

abbrev low_lane : ℤ → ℤ → ℤ → ℤ → ℤ → ℤ
low_lane p0 p1 p2 p3 p4 = int_wrap w32 (int_wrap w32 (pair_lane p0 p1 +ℤ pair_lane p2 p4) +ℤ p3)

abbrev high_lane : ℤ → ℤ → ℤ → ℤ → ℤ → ℤ
high_lane p0 p1 p2 p3 p4 = int_wrap w32 (int_wrap w32
    (half (less_one (pair_lane p0 p1)) +ℤ half (less_one (pair_lane p2 p4))) +ℤ half p3)

abbrev rest_lane : ℤ → ℤ → ℤ
rest_lane low high = int_wrap w32 (low -ℤ int_wrap w32 (high *ℤ pos (2 ^ 16)))

abbrev shifted_lane : ℕ → ℕ → ℤ → ℤ → ℤ
shifted_lane k e low high = int_wrap w32 (int_wrap w32 (high *ℤ pos (2 ^ e)) +ℤ shr_z (rest_lane low high) (2 ^ k))

-- ---- the high halves
half_range : (z : ℤ) → SFits w32 z → (negsuc 32767 ≤ℤ half z) × (half z ≤ℤ pos 32767)
half_range (pos a) f = let h = f.sfits in (omega (arith, ints), omega (arith, ints, h, div-add-mod' a 65536))
half_range (negsuc a) f = let h = f.sfits in (omega (arith, ints, h, div-add-mod' a 65536), omega (arith, ints))

small_fits : (p : ℤ) → IsSmall p → SFits w32 p
small_fits (pos a) f = record { sfits = omega (arith, f) }
small_fits (negsuc a) f = record { sfits = omega (arith, f) }

pub word_between : (z : ℤ) → negsuc (2 ^ 31 - 1) ≤ℤ z → z ≤ℤ pos (2 ^ 31 - 1) → SFits w32 z
word_between (pos n) low high = record { sfits = omega (arith, ints, high) }
word_between (negsuc n) low high = record { sfits = omega (arith, ints, low) }

small_range : (p : ℤ) → IsSmall p → (negsuc (2 ^ 30 - 1) ≤ℤ p) × (p ≤ℤ pos (2 ^ 30))
small_range (pos a) f = (omega (arith, ints), omega (arith, ints, f))
small_range (negsuc a) f = (omega (arith, ints, f), omega (arith, ints))

-- a pair less 1 is not wrapped, though the pair may be
less_is : (p q : ℤ) → IsSmall p → IsSmall q → less_one (pair_lane p q) ≡ p +ℤ q +ℤ negsuc 0
less_is p q f g = int_wrap-add_left w32 (p +ℤ q) (negsuc 0) ∙ int_wrap_fits w32 (p +ℤ q +ℤ negsuc 0) (less_fits p q f g)

abbrev Half : ℤ → ℤ → Type 0
Half z h = (m : ℕ) × (m < 65536) × (z ≡ h *ℤ pos 65536 +ℤ pos m) × (negsuc 32767 ≤ℤ h) × (h ≤ℤ pos 32767)

half_of : (z : ℤ) → SFits w32 z → Half z (half z)
half_of z f = let l = floored z 65536 (omega arith) in let r = half_range z f in (l.0, l.1, l.2, r.0, r.1)

pair_half : (p q : ℤ) → IsSmall p → IsSmall q → Half (p +ℤ q +ℤ negsuc 0) (half (less_one (pair_lane p q)))
pair_half p q f g = subst (λ (z : ℤ). Half (p +ℤ q +ℤ negsuc 0) (half z)) (sym (less_is p q f g))
    (half_of (p +ℤ q +ℤ negsuc 0) (less_fits p q f g))

-- ---- the sum of five
low_is : (p0 p1 p2 p3 p4 : ℤ) → low_lane p0 p1 p2 p3 p4 ≡ int_wrap w32 (p0 +ℤ p1 +ℤ p2 +ℤ (p3 +ℤ p4))
low_is p0 p1 p2 p3 p4 =
    int_wrap-add_left w32 (pair_lane p0 p1 +ℤ pair_lane p2 p4) p3
    ∙ ap (int_wrap w32) (order (pair_lane p0 p1) (pair_lane p2 p4) p3)
    ∙ int_wrap-add_left w32 (p0 +ℤ p1) (pair_lane p2 p4 +ℤ p3)
    ∙ ap (int_wrap w32) (turn (p0 +ℤ p1) (pair_lane p2 p4) p3)
    ∙ int_wrap-add_left w32 (p2 +ℤ p4) (p0 +ℤ p1 +ℤ p3)
    ∙ ap (int_wrap w32) (all p0 p1 p2 p3 p4)
  where
    order : (a b c : ℤ) → a +ℤ b +ℤ c ≡ a +ℤ (b +ℤ c)
    order a b c = omega (arith, ints)

    turn : (a b c : ℤ) → a +ℤ (b +ℤ c) ≡ b +ℤ (a +ℤ c)
    turn a b c = omega (arith, ints)

    all : (p0 p1 p2 p3 p4 : ℤ) → p2 +ℤ p4 +ℤ (p0 +ℤ p1 +ℤ p3) ≡ p0 +ℤ p1 +ℤ p2 +ℤ (p3 +ℤ p4)
    all p0 p1 p2 p3 p4 = omega (arith, ints)

high_is : (h h' h3 : ℤ) → negsuc 32767 ≤ℤ h → h ≤ℤ pos 32767 → negsuc 32767 ≤ℤ h' → h' ≤ℤ pos 32767
    → negsuc 32767 ≤ℤ h3 → h3 ≤ℤ pos 32767
    → int_wrap w32 (int_wrap w32 (h +ℤ h') +ℤ h3) ≡ h +ℤ h' +ℤ h3
high_is h h' h3 a b c d e f =
    int_wrap-add_left w32 (h +ℤ h') h3
    ∙ int_wrap_fits w32 (h +ℤ h' +ℤ h3) (word_between (h +ℤ h' +ℤ h3) (omega (arith, ints, a, c, e))
    (omega (arith, ints, b, d, f)))

-- what the sum has beyond its high halves
rest_is : (s h : ℤ) (r : ℕ) → s ≡ h *ℤ pos 65536 +ℤ pos r → r < 262144 → rest_lane (int_wrap w32 s) h ≡ pos r
rest_is s h r is small =
    int_wrap-sub_right w32 (int_wrap w32 s) (h *ℤ pos (2 ^ 16))
    ∙ ap (int_wrap w32) (turned (int_wrap w32 s) h)
    ∙ int_wrap-add_left w32 s (h *ℤ negsuc 65535)
    ∙ ap (int_wrap w32) (left s h r is)
    ∙ int_wrap_fits w32 (pos r) (record { sfits = omega (arith, small) })
  where
    turned : (a b : ℤ) → a -ℤ (b *ℤ pos (2 ^ 16)) ≡ a +ℤ (b *ℤ negsuc 65535)
    turned a b = omega (arith, ints)

    left : (s h : ℤ) (r : ℕ) → s ≡ h *ℤ pos 65536 +ℤ pos r → s +ℤ (h *ℤ negsuc 65535) ≡ pos r
    left s h r is = omega (arith, ints, is)

-- the floor of the whole, as the code makes it
floor_fits : (s : ℤ) (k : ℕ) → 4 ≤ 2 ^ k → negsuc (5 * 2 ^ 30 - 1) ≤ℤ s → s ≤ℤ pos (5 * 2 ^ 30)
    → SFits w32 (shr_z s (2 ^ k))
floor_fits s k some low high = by s (2 ^ k) some low high
  where
    quarter : (a d : ℕ) → 4 ≤ d → a / d * 4 ≤ a
    quarter a d some = let more : a / d * 4 ≤ a / d * d = mul-le-mul_left (a / d) some in omega
        (arith, more, div-add-mod' a d)

    by : (s : ℤ) (d : ℕ) → 4 ≤ d → negsuc (5 * 2 ^ 30 - 1) ≤ℤ s → s ≤ℤ pos (5 * 2 ^ 30) → SFits w32 (shr_z s d)
    by (pos a) d some low high =
        let size : a ≤ 5 * 2 ^ 30 = omega (arith, ints, high) in
        record { sfits = omega (arith, size, quarter a d some) }
    by (negsuc a) d some low high =
        let size : a ≤ 5 * 2 ^ 30 = omega (arith, ints, low) in
        record { sfits = omega (arith, size, quarter a d some) }

shifted_is : (s h : ℤ) (r k e : ℕ) → s ≡ h *ℤ pos 65536 +ℤ pos r → r < 262144 → 2 ^ e * 2 ^ k ≡ 65536 → 4 ≤ 2 ^ k
    → negsuc (5 * 2 ^ 30 - 1) ≤ℤ s → s ≤ℤ pos (5 * 2 ^ 30)
    → shifted_lane k e (int_wrap w32 s) h ≡ shr_z s (2 ^ k)
shifted_is s h r k e is small both some low high =
    ap (λ z. int_wrap w32 (int_wrap w32 (h *ℤ pos (2 ^ e)) +ℤ shr_z z (2 ^ k))) (rest_is s h r is small)
    ∙ int_wrap-add_left w32 (h *ℤ pos (2 ^ e)) (pos (r / 2 ^ k))
    ∙ ap (int_wrap w32) (sym (floor_parts h r (2 ^ e) (2 ^ k) (pow_pos k))
    ∙ ap (λ n. shr_z (h *ℤ pos n +ℤ pos r) (2 ^ k)) both ∙ ap (λ z. shr_z z (2 ^ k)) (sym is))
    ∙ int_wrap_fits w32 (shr_z s (2 ^ k)) (floor_fits s k some low high)

module _ (p0 p1 p2 p3 p4 : ℤ) (f0 : IsSmall p0) (f1 : IsSmall p1) (f2 : IsSmall p2) (f3 : IsSmall p3) (f4 : IsSmall p4)
  where
    -- the lane that the code makes is the floor of the sum
    pub five_shifted : (k e : ℕ) → 2 ^ e * 2 ^ k ≡ 65536 → 4 ≤ 2 ^ k
        → shifted_lane k e (low_lane p0 p1 p2 p3 p4) (high_lane p0 p1 p2 p3 p4) ≡ shr_z (p0 +ℤ p1 +ℤ p2 +ℤ (p3 +ℤ p4))
        (2 ^ k)
    five_shifted k e both some =
        let a = half (less_one (pair_lane p0 p1)) in
        let b = half (less_one (pair_lane p2 p4)) in
        let c = half p3 in
        let (m, fine, is, low, high) = pair_half p0 p1 f0 f1 in
        let (m', fine', is', low', high') = pair_half p2 p4 f2 f4 in
        let (n, fine3, is3, low3, high3) = half_of p3 (small_fits p3 f3) in
        let s = p0 +ℤ p1 +ℤ p2 +ℤ (p3 +ℤ p4) in
        let parts = summed p0 p1 p2 p3 p4 a b c m m' n is is' is3 in
        let r0 = small_range p0 f0 in
        let r1 = small_range p1 f1 in
        let r2 = small_range p2 f2 in
        let r3 = small_range p3 f3 in
        let r4 = small_range p4 f4 in
        (λ i. shifted_lane k e (low_is p0 p1 p2 p3 p4 i) (high_is a b c low high low' high' low3 high3 i))
        ∙ shifted_is s (a +ℤ b +ℤ c) (m + m' + n + 2) k e parts (omega (arith, fine, fine', fine3)) both some
        (least p0 p1 p2 p3 p4 r0.0 r1.0 r2.0 r3.0 r4.0) (most p0 p1 p2 p3 p4 r0.1 r1.1 r2.1 r3.1 r4.1)
      where
        summed : (p0 p1 p2 p3 p4 a b c : ℤ) (m m' n : ℕ) → p0 +ℤ p1 +ℤ negsuc 0 ≡ a *ℤ pos 65536 +ℤ pos m
            → p2 +ℤ p4 +ℤ negsuc 0 ≡ b *ℤ pos 65536 +ℤ pos m' → p3 ≡ c *ℤ pos 65536 +ℤ pos n
            → p0 +ℤ p1 +ℤ p2 +ℤ (p3 +ℤ p4) ≡ (a +ℤ b +ℤ c) *ℤ pos 65536 +ℤ pos (m + m' + n + 2)
        summed p0 p1 p2 p3 p4 a b c m m' n x y z = omega (arith, ints, x, y, z)

        least : (p0 p1 p2 p3 p4 : ℤ) → negsuc (2 ^ 30 - 1) ≤ℤ p0 → negsuc (2 ^ 30 - 1) ≤ℤ p1 → negsuc (2 ^ 30 - 1) ≤ℤ p2
            → negsuc (2 ^ 30 - 1) ≤ℤ p3 → negsuc (2 ^ 30 - 1) ≤ℤ p4
            → negsuc (5 * 2 ^ 30 - 1) ≤ℤ (p0 +ℤ p1 +ℤ p2 +ℤ (p3 +ℤ p4))
        least p0 p1 p2 p3 p4 a b c d e = omega (arith, ints, a, b, c, d, e)

        most : (p0 p1 p2 p3 p4 : ℤ) → p0 ≤ℤ pos (2 ^ 30) → p1 ≤ℤ pos (2 ^ 30) → p2 ≤ℤ pos (2 ^ 30) → p3 ≤ℤ pos (2 ^ 30)
            → p4 ≤ℤ pos (2 ^ 30)
            → (p0 +ℤ p1 +ℤ p2 +ℤ (p3 +ℤ p4)) ≤ℤ pos (5 * 2 ^ 30)
        most p0 p1 p2 p3 p4 a b c d e = omega (arith, ints, a, b, c, d, e)
