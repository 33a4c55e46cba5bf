-- Lanes of 64 bits that are moved down without a sign.
use Rattle.std.proofs.Common.{ℕ, zero, suc, ◌≡◌, ◌<◌, ◌≤◌, ◌+◌, ◌-◌, ◌*◌, ◌/◌, ◌%◌, ◌^◌, List, [], ◌∷◌, length, map}
use Rattle.std.proofs.Common.{replicate, refl, sym, ap, subst, ◌∙◌, arith, ℤ, pos, negsuc, SFits, to_z, of_z, w32, w64}
use Rattle.std.proofs.Math.Facts.{Fits-of_z, sfits_to_z}
use Rattle.std.proofs.Math.Nat.{div-lt_iff_lt-mul, div-eq_of_lt-le, pow-suc}
use Rattle.std.proofs.lemmas.Int.{of_z-to_z}
use Rattle.std.proofs.lemmas.Nat.{div-add-mod', mod_below, pow-add}
use Rattle.std.specs.Int.{int_wrap}
use lib.Lanes.{zip2, Each1, digits_l, number_l}
use lib.Pow.{pow_pos}
use lib.Signed.{shr_z, mag_shr}
use native.Mathlib.Nat.{lt_of_le_of_lt, div-le_self}
use mir.Syntax.{unsigned, shr}
use borrow.Table.Row.{s_int}
use borrow.Rule.Simd.Lanes.{act2}
use Rattle.dsp_defs.specs.Signal.{sample, values}
use Rattle.dsp_lanes.proofs.LaneOps.{bits_of}

-- ---- the bytes of lanes, as lanes again
number_digits : (n x : ℕ) → x < 256 ^ n → number_l 256 (digits_l 256 n x) ≡ x
number_digits zero x h = omega arith
number_digits (suc n) x h =
    let power = pow-suc 256 n in
    let rest = number_digits n (x / 256) (omega (arith, h, power)) in
    omega (arith, rest)

abbrev pub same_lanes : List ℕ → List ℕ
same_lanes lanes = digits_l (2 ^ 64) 4 (number_l 256 (digits_l 256 32 (number_l (2 ^ 64) lanes)))

lanes_are : (a b c d : ℕ) → a < 2 ^ 64 → b < 2 ^ 64 → c < 2 ^ 64 → d < 2 ^ 64 →
    same_lanes (a ∷ b ∷ c ∷ d ∷ []) ≡ a ∷ b ∷ c ∷ d ∷ []
lanes_are a b c d A B C D =
    let three = d + 2 ^ 64 * 0 in
    let two = c + 2 ^ 64 * three in
    let one = b + 2 ^ 64 * two in
    ap (digits_l (2 ^ 64) 4) (number_digits 32 (a + 2 ^ 64 * one) (omega (arith, A, B, C, D)))
    ∙ lowest 3 a one A
    ∙ ap (λ l. a ∷ l) (lowest 2 b two B ∙ ap (λ l. b ∷ l) (lowest 1 c three C ∙ ap (λ l. c ∷ l) (lowest 0 d 0 D)))
  where
    lowest : (n a x : ℕ) → a < 2 ^ 64 → digits_l (2 ^ 64) (suc n) (a + 2 ^ 64 * x) ≡ a ∷ digits_l (2 ^ 64) n x
    lowest n a x h =
        let low : (a + 2 ^ 64 * x) % 2 ^ 64 ≡ a = omega (arith, h) in
        let high : (a + 2 ^ 64 * x) / 2 ^ 64 ≡ x = omega (arith, h) in
        λ i. low i ∷ digits_l (2 ^ 64) n (high i)

-- ---- the low word of a number
-- it is that of its bits
pub low_word_is : (z : ℤ) → SFits w64 z → to_z w32 (of_z w64 z % 2 ^ 32) ≡ int_wrap w32 z
unfolding int_wrap
low_word_is (pos a) f = refl
low_word_is (negsuc a) f =
    let h = f.sfits in
    let rest = mod_below a (2 ^ 32) (omega arith) in
    let whole = div-add-mod' a (2 ^ 32) in
    let same : (2 ^ 64 - suc a) % 2 ^ 32 ≡ 2 ^ 32 - 1 - a % 2 ^ 32 = omega (arith, h, rest, whole) in
    ap (to_z w32) same

-- the low word of bits that are moved down is that of the number moved down
moved_word : (z : ℤ) (k : ℕ) → k ≤ 32 → SFits w64 z →
    (of_z w64 z / 2 ^ k) % 2 ^ 32 ≡ of_z w64 (shr_z z (2 ^ k)) % 2 ^ 32
moved_word (pos a) k few f = refl
moved_word (negsuc a) k few f =
    let h = f.sfits in
    let d = 2 ^ k in
    let c = 2 ^ (32 - k) in
    let q = a / d in
    let places : 32 - k + k ≡ 32 = omega (arith, few) in
    let both : c * d ≡ 2 ^ 32 = sym (pow-add 2 (32 - k) k) ∙ ap (λ n. 2 ^ n) places in
    let whole : 2 ^ 32 * c * d ≡ 2 ^ 64 = omega (arith, both) in
    let below : q < 2 ^ 32 * c = (div-lt_iff_lt-mul (pow_pos k)).1 (omega (arith, whole, h)) in
    let t = 2 ^ 32 * c - suc q in
    let rest = mod_below a d (pow_pos k) in
    let parts = div-add-mod' a d in
    let split : suc t * d + q * d ≡ 2 ^ 64 = spread (2 ^ 32 * c) q d t (omega (arith, below)) ∙ whole in
    let is : (2 ^ 64 - suc a) / d ≡ t = div-eq_of_lt-le d (omega (arith, split, parts, rest))
    (omega (arith, split, parts, rest)) in
    let less : q ≤ a = div-le_self a d in
    ap (λ n. n % 2 ^ 32) is ∙ low c q t (omega (arith, below)) (omega (arith, less, h))
  where
    spread : (m q d t : ℕ) → m ≡ suc t + q → suc t * d + q * d ≡ m * d
    spread m q d t e = sym (ap (λ n. n * d) e ∙ (let all : (suc t + q) * d ≡ suc t * d + q * d = omega arith in all))

    low : (c q t : ℕ) → t + suc q ≡ 2 ^ 32 * c → q < 2 ^ 64 → t % 2 ^ 32 ≡ (2 ^ 64 - suc q) % 2 ^ 32
    low c q t e less = omega (arith, e, less)

abbrev moved : ℤ → ℕ → ℕ
moved z k = of_z w64 z / 2 ^ k

moved_below : (z : ℤ) (k : ℕ) → SFits w64 z → moved z k < 2 ^ 64
moved_below z k f = lt_of_le_of_lt (div-le_self (of_z w64 z) (2 ^ k)) ((Fits-of_z f).fits)

moved_is : (z : ℤ) (k : ℕ) → k ≤ 32 → SFits w64 z →
    int_wrap w32 (to_z w64 (moved z k)) ≡ int_wrap w32 (shr_z z (2 ^ k))
moved_is z k few f =
    let below = moved_below z k f in
    let less = mag_shr z (2 ^ k) in
    sym (low_word_is (to_z w64 (moved z k)) (sfits_to_z (record { fits = below })))
    ∙ ap (λ n. to_z w32 (n % 2 ^ 32)) (of_z-to_z w64 (moved z k) below)
    ∙ ap (to_z w32) (moved_word z k few f)
    ∙ low_word_is (shr_z z (2 ^ k)) (record { sfits = lt_of_le_of_lt less f.sfits })

-- ---- four lanes
abbrev pub unsigned_down : ℕ → List ℕ → List ℕ
unsigned_down k lanes = same_lanes (zip2 (act2 (shr unsigned) (s_int w64) (s_int w64) (s_int w64)) (same_lanes lanes)
    (replicate 4 k))

module _ (a b c d : ℤ) (fa : SFits w64 a) (fb : SFits w64 b) (fc : SFits w64 c) (fd : SFits w64 d) (k : ℕ)
    (few : k ≤ 32) where
  abbrev four : List ℤ
  four = a ∷ b ∷ c ∷ d ∷ []

  down_is : unsigned_down k (bits_of w64 four) ≡ moved a k ∷ moved b k ∷ moved c k ∷ moved d k ∷ []
  down_is =
      ap (λ l. same_lanes (zip2 (act2 (shr unsigned) (s_int w64) (s_int w64) (s_int w64)) l (replicate 4 k)))
      (lanes_are (of_z w64 a) (of_z w64 b) (of_z w64 c) (of_z w64 d) (Fits-of_z fa).fits (Fits-of_z fb).fits
      (Fits-of_z fc).fits (Fits-of_z fd).fits)
      ∙ lanes_are (moved a k) (moved b k) (moved c k) (moved d k) (moved_below a k fa) (moved_below b k fb)
      (moved_below c k fc) (moved_below d k fd)

  four_read : (map (int_wrap w32) (map (to_z w64) (unsigned_down k (bits_of w64 four))) ≡ values 4
      (λ i. int_wrap w32 (shr_z (sample four i) (2 ^ k))))
      × (length (map (to_z w64) (unsigned_down k (bits_of w64 four))) ≡ 4)
      × Each1 (SFits w64) (map (to_z w64) (unsigned_down k (bits_of w64 four)))
  four_read =
      let wide = λ (z : ℤ) (f : SFits w64 z). sfits_to_z (record { fits = moved_below z k f }) in (
        ap (λ l. map (int_wrap w32) (map (to_z w64) l)) down_is
            ∙ (λ t. moved_is a k few fa t ∷ moved_is b k few fb t ∷ moved_is c k few fc t ∷ moved_is d k few fd t ∷ []),
        ap (λ l. length (map (to_z w64) l)) down_is,
        subst (λ (l : List ℕ). Each1 (SFits w64) (map (to_z w64) l)) (sym down_is)
            (wide a fa, (wide b fb, (wide c fc, (wide d fd, tt)))),
      )

pub shifted_read : (xs : List ℤ) → length xs ≡ 4 → Each1 (SFits w64) xs → (k : ℕ) → k ≤ 32 →
    (map (int_wrap w32) (map (to_z w64) (unsigned_down k (bits_of w64 xs))) ≡ values 4
    (λ i. int_wrap w32 (shr_z (sample xs i) (2 ^ k))))
    × (length (map (to_z w64) (unsigned_down k (bits_of w64 xs))) ≡ 4)
    × Each1 (SFits w64) (map (to_z w64) (unsigned_down k (bits_of w64 xs)))
shifted_read (a ∷ b ∷ c ∷ d ∷ []) e f k few = four_read a b c d f.0 f.1.0 f.1.1.0 f.1.1.1.0 k few
shifted_read [] e f k few = absurd (omega (arith, e))
shifted_read (a ∷ []) e f k few = absurd (omega (arith, e))
shifted_read (a ∷ b ∷ []) e f k few = absurd (omega (arith, e))
shifted_read (a ∷ b ∷ c ∷ []) e f k few = absurd (omega (arith, e))
shifted_read (a ∷ b ∷ c ∷ d ∷ h ∷ xs) e f k few = absurd (omega (arith, e))
