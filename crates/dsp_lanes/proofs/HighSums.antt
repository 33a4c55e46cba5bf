-- Sums in two parts: wrapped to 32 bits, and the sum of the high halves of what was added, less 1.
use Rattle.std.proofs.Common.{ℕ, ◌≡◌, ◌<◌, ◌≤◌, ◌+◌, ◌-◌, ◌*◌, ◌/◌, ◌%◌, ◌^◌, List, [], ◌∷◌, length, map, refl, sym}
use Rattle.std.proofs.Common.{ap, ap₂, subst, ◌∙◌, arith, w32, w64}
use Rattle.std.proofs.lemmas.Int.{ints, int_wrap_fits, SFits-int_wrap, int_wrap-add_left, int_wrap-sub_right}
use Rattle.std.proofs.lemmas.Nat.{div-add-mod', mod_below}
use Rattle.std.proofs.lemmas.Simd.{Each1-replicate, length-zip2, zip2_splat}
use Rattle.std.specs.Prelude.{ℤ, pos, negsuc, ◌+ℤ◌, ◌-ℤ◌, ◌*ℤ◌, unsigned_abs, replicate}
use Rattle.std.specs.Int.{int_wrap}
use lib.Lanes.{zip2, Each1, Each2}
use lib.Signed.{shr_z}
use mir.Syntax.{wrap_sub}
use mir.Val.{SFits, to_z, of_z}
use borrow.Table.Row.{s_int}
use borrow.Rule.Simd.Lanes.{act2}
use Rattle.dsp_lanes.specs.HighSums.{AreParts, AreHighSums, rest_of, whole_of, wholes}
use Rattle.dsp_lanes.proofs.LaneOps.{bits_of, ints_of_bits, splat_bits, added, subtracted, shifted, shifted_up}
use Rattle.dsp_lanes.proofs.LaneOps.{each_shift_fits, Each1-map, zip2-right, length-map}
use Rattle.dsp_lanes.proofs.LaneSums.{plus_in, raised, raised_fit, summed_fit, lanes_read}
use Rattle.dsp_lanes.proofs.LaneClosings.{down_in, up_in, words_fit}

-- ---- one sum
-- the high half of a number, less 1, and what is left of it
half_of : (z : ℤ) → (m : ℕ) × (z ≡ (shr_z z (2 ^ 16) *ℤ pos 65536) +ℤ pos m) × (m < 65536)
half_of (pos a) = (a % 65536, omega (arith, ints, div-add-mod' a 65536), mod_below a 65536 (omega arith))
half_of (negsuc a) =
    let small = mod_below a 65536 (omega arith) in
    (65535 - a % 65536, omega (arith, ints, small, div-add-mod' a 65536), omega (arith, small))

half_small : (z : ℤ) → SFits w32 z → unsigned_abs (shr_z z (2 ^ 16)) ≤ 32768
half_small (pos a) f = let h = f.sfits in omega (arith, ints, h, div-add-mod' a 65536)
half_small (negsuc a) f = let h = f.sfits in omega (arith, ints, h, div-add-mod' a 65536)

high_fits : (n : ℕ) (h : ℤ) → n < 32768 → unsigned_abs h ≤ n * 32768 → SFits w32 h
high_fits n (pos a) few small = omega (arith, ints, few, small)
high_fits n (negsuc a) few small = omega (arith, ints, few, small)

sum_small : (n : ℕ) (h q : ℤ) → unsigned_abs h ≤ n * 32768 → unsigned_abs q ≤ 32768 →
    unsigned_abs (h +ℤ q) ≤ (n + 1) * 32768
sum_small n (pos a) (pos b) f g = omega (arith, ints, f, g)
sum_small n (pos a) (negsuc b) f g = grind (arith, ints)
sum_small n (negsuc a) (pos b) f g = grind (arith, ints)
sum_small n (negsuc a) (negsuc b) f g = omega (arith, ints, f, g)

-- the next parts
abbrev low_next : ℤ → ℤ → ℤ
low_next low s = int_wrap w32 (low +ℤ int_wrap w32 s)

abbrev half_next : ℤ → ℤ
half_next s = shr_z (int_wrap w32 (int_wrap w32 s +ℤ negsuc 0)) (2 ^ 16)

abbrev high_next : ℤ → ℤ → ℤ
high_next high s = int_wrap w32 (high +ℤ half_next s)

module _ (n : ℕ) (low high s : ℤ) (few : n + 1 < 32768) (parts : AreParts n low high)
    (near : SFits w32 (s +ℤ negsuc 0)) where
  q : ℤ
  q = shr_z (s +ℤ negsuc 0) (2 ^ 16)

  half_is : half_next s ≡ q
  unfolding q
  half_is = ap (λ z. shr_z z (2 ^ 16)) (int_wrap-add_left w32 s (negsuc 0) ∙ int_wrap_fits w32 (s +ℤ negsuc 0) near)

  q_small : unsigned_abs q ≤ 32768
  unfolding q
  q_small = half_small (s +ℤ negsuc 0) near

  left : (m : ℕ) × (s +ℤ negsuc 0 ≡ (q *ℤ pos 65536) +ℤ pos m) × (m < 65536)
  unfolding q
  left = half_of (s +ℤ negsuc 0)

  high_is : high_next high s ≡ high +ℤ q
  high_is =
      let small = sum_small n high q parts.high_small q_small in
      ap (λ z. int_wrap w32 (high +ℤ z)) half_is ∙ int_wrap_fits w32 (high +ℤ q)
      (high_fits (n + 1) (high +ℤ q) few small)

  more : ℕ
  more = parts.rest + (left.0 + 1)

  moved : (low h s q : ℤ) → (low +ℤ s) +ℤ ((h +ℤ q) *ℤ negsuc 65535) ≡ s +ℤ (low +ℤ ((h +ℤ q) *ℤ negsuc 65535))
  moved low h s q = omega (arith, ints)

  parted : (low h s q : ℤ) (m : ℕ) → s +ℤ negsuc 0 ≡ (q *ℤ pos 65536) +ℤ pos m →
      s +ℤ (low +ℤ ((h +ℤ q) *ℤ negsuc 65535)) ≡ (low +ℤ (h *ℤ negsuc 65535)) +ℤ pos (m + 1)
  parted low h s q m is = omega (arith, ints, is)

  more_fits : (r m : ℕ) → r ≤ n * 65536 → m < 65536 → SFits w32 (pos r +ℤ pos (m + 1))
  more_fits r m f g = record { sfits = omega (arith, few, f, g) }

  rest_next : rest_of (low_next low s) (high_next high s) ≡ pos more
  unfolding more
  rest_next =
      let h = high +ℤ q in
      let m = left.0 in
      ap (λ z. rest_of (low_next low s) z) high_is
      ∙ int_wrap-add_left w32 (low +ℤ int_wrap w32 s) (h *ℤ negsuc 65535)
      ∙ ap (int_wrap w32) (moved low high (int_wrap w32 s) q)
      ∙ int_wrap-add_left w32 s (low +ℤ (h *ℤ negsuc 65535))
      ∙ ap (int_wrap w32) (parted low high s q m left.1)
      ∙ sym (int_wrap-add_left w32 (low +ℤ (high *ℤ negsuc 65535)) (pos (m + 1)))
      ∙ ap (λ z. int_wrap w32 (z +ℤ pos (m + 1))) parts.rest_is
      ∙ int_wrap_fits w32 (pos parts.rest +ℤ pos (m + 1)) (more_fits parts.rest m parts.rest_small left.2)

  summed : (h q s : ℤ) (r m : ℕ) → s +ℤ negsuc 0 ≡ (q *ℤ pos 65536) +ℤ pos m →
      ((h +ℤ q) *ℤ pos 65536) +ℤ pos (r + (m + 1)) ≡ ((h *ℤ pos 65536) +ℤ pos r) +ℤ s
  summed h q s r m is = omega (arith, ints, is)

  whole_next : whole_of (low_next low s) (high_next high s) ≡ whole_of low high +ℤ s
  unfolding more
  whole_next =
      ap₂ (λ h r. (h *ℤ pos 65536) +ℤ r) high_is rest_next
      ∙ summed high q s parts.rest left.0 left.1
      ∙ ap (λ r. ((high *ℤ pos 65536) +ℤ r) +ℤ s) (sym parts.rest_is)

  parts_next : AreParts (n + 1) (low_next low s) (high_next high s)
  unfolding more
  parts_next =
      let small = sum_small n high q parts.high_small q_small in
      let rest = parts.rest_small in
      let part = left.2 in
      record {
        rest = more;
        rest_is = rest_next;
        rest_small = omega (arith, rest, part);
        high_small = subst (λ (z : ℤ). unsigned_abs z ≤ (n + 1) * 32768) (sym high_is) small;
      }

-- ---- four sums
parts_wide : (n m : ℕ) (low high : ℤ) → n ≤ m → AreParts n low high → AreParts m low high
parts_wide n m low high le parts =
    let rest = parts.rest_small in
    let small = parts.high_small in
    record { rest = parts.rest; rest_is = parts.rest_is; rest_small = omega arith; high_small = omega arith }

abbrev pub IsNear : ℤ → Type 0
IsNear s = SFits w32 (s +ℤ negsuc 0)

abbrev lows_next : List ℤ → List ℤ → List ℤ
lows_next low ss = raised w32 low (map (int_wrap w32) ss)

abbrev highs_next : List ℤ → List ℤ → List ℤ
highs_next high ss = zip2 (λ h p. int_wrap w32 (h +ℤ shr_z (int_wrap w32 (p +ℤ negsuc 0)) (2 ^ 16))) high
    (map (int_wrap w32) ss)

pub whole_fits : (n : ℕ) (h s : ℤ) (r : ℕ) → n < 32768 → unsigned_abs h ≤ n * 32768 → r ≤ n * 65536 →
    SFits w32 (s +ℤ negsuc 0) → SFits w64 (((h *ℤ pos 65536) +ℤ pos r) +ℤ s)
whole_fits n h s r few small rest near =
    let size : unsigned_abs h ≤ 32768 * 32768 = omega (arith, few, small) in
    let tail : r ≤ 32768 * 65536 = omega (arith, few, rest) in
    far h s r size tail near
  where
    far : (h s : ℤ) (r : ℕ) → unsigned_abs h ≤ 32768 * 32768 → r ≤ 32768 * 65536 → SFits w32 (s +ℤ negsuc 0) →
        SFits w64 (((h *ℤ pos 65536) +ℤ pos r) +ℤ s)
    far (pos a) (pos b) r f g h = omega (arith, ints, f, g, h)
    far (pos a) (negsuc b) r f g h = omega (arith, ints, f, g, h)
    far (negsuc a) (pos b) r f g h = omega (arith, ints, f, g, h)
    far (negsuc a) (negsuc b) r f g h = omega (arith, ints, f, g, h)

wholes_next : (n : ℕ) (low high ss : List ℤ) → n + 1 < 32768 → Each2 (AreParts n) low high → Each1 IsNear ss
    → wholes (lows_next low ss) (highs_next high ss) ≡ raised w64 (wholes low high) ss
wholes_next n [] high ss few parts near = refl
wholes_next n (l ∷ low) [] [] few parts near = refl
wholes_next n (l ∷ low) [] (s ∷ ss) few parts near = refl
wholes_next n (l ∷ low) (h ∷ high) [] few parts near = refl
wholes_next n (l ∷ low) (h ∷ high) (s ∷ ss) few parts near =
    let part = parts.0 in
    let fits : SFits w64 (whole_of l h +ℤ s) = subst (λ (r : ℤ). SFits w64 (((h *ℤ pos 65536) +ℤ r) +ℤ s))
    (sym part.rest_is) (whole_fits n h s part.rest (omega arith) part.high_small part.rest_small near.0) in
    ap₂ (λ a l. a ∷ l) (whole_next n l h s few part near.0 ∙ sym (int_wrap_fits w64 (whole_of l h +ℤ s) fits))
    (wholes_next n low high ss few parts.1 near.1)

all_parts_next : (n m : ℕ) (low high ss : List ℤ) → n + 1 ≤ m → n + 1 < 32768 → Each2 (AreParts n) low high →
    Each1 IsNear ss → Each2 (AreParts m) (lows_next low ss) (highs_next high ss)
all_parts_next n m [] high ss le few parts near = tt
all_parts_next n m (l ∷ low) [] [] le few parts near = tt
all_parts_next n m (l ∷ low) [] (s ∷ ss) le few parts near = tt
all_parts_next n m (l ∷ low) (h ∷ high) [] le few parts near = tt
all_parts_next n m (l ∷ low) (h ∷ high) (s ∷ ss) le few parts near = (
  parts_wide (n + 1) m (low_next l s) (high_next h s) le (parts_next n l h s few parts.0 near.0),
  all_parts_next n m low high ss le few parts.1 near.1,
)

-- the next sums, from what was raised
pub high_sums_next : (n m : ℕ) (low high ps ss low' high' : List ℤ) → AreHighSums n low high → n + 1 ≤ m → m < 32768 →
    length ss ≡ 4 → ps ≡ map (int_wrap w32) ss → Each1 IsNear ss
    → low' ≡ raised w32 low ps → high' ≡ zip2 (λ h p. int_wrap w32
    (h +ℤ shr_z (int_wrap w32 (p +ℤ negsuc 0)) (2 ^ 16))) high ps
    → AreHighSums m low' high' × (wholes low' high' ≡ raised w64 (wholes low high) ss)
high_sums_next n m low high ps ss low' high' sums le few long is near low_is high_is =
    let lows : low' ≡ lows_next low ss = low_is ∙ ap (raised w32 low) is in
    let highs : high' ≡ highs_next high ss = high_is ∙ ap
    (zip2 (λ h p. int_wrap w32 (h +ℤ shr_z (int_wrap w32 (p +ℤ negsuc 0)) (2 ^ 16))) high) is in
    let long_p : length (map (int_wrap w32) ss) ≡ 4 = length-map (int_wrap w32) ss ∙ long in (
      record {
        few = few;
        low_fits = subst (λ (l : List ℤ). Each1 (SFits w32) l) (sym lows) (raised_fit w32 low (map (int_wrap w32) ss));
        high_fits = subst (λ (l : List ℤ). Each1 (SFits w32) l) (sym highs)
            (summed_fit w32 (λ h p. h +ℤ shr_z (int_wrap w32 (p +ℤ negsuc 0)) (2 ^ 16)) high (map (int_wrap w32) ss));
        low_long = ap length lows ∙ length-zip2 _ low (map (int_wrap w32) ss) (sums.low_long ∙ sym long_p) ∙
            sums.low_long;
        high_long = ap length highs ∙ length-zip2 _ high (map (int_wrap w32) ss) (sums.high_long ∙ sym long_p) ∙
            sums.high_long;
        parts = subst (λ (l : List ℤ). Each2 (AreParts m) l high') (sym lows)
            (subst (λ (l : List ℤ). Each2 (AreParts m) (lows_next low ss) l) (sym highs)
            (all_parts_next n m low high ss le (omega arith) sums.parts near));
      },
      (λ i. wholes (lows i) (highs i)) ∙ wholes_next n low high ss (omega arith) sums.parts near,
    )

-- wrapped numbers, read from their lanes
pub read_wrapped : (new ss : List ℤ) → new ≡ map (int_wrap w32) ss →
    map (to_z w32) (bits_of w32 new) ≡ map (int_wrap w32) ss
read_wrapped new ss is = ap (λ l. map (to_z w32) (bits_of w32 l)) is ∙
    ints_of_bits w32 (map (int_wrap w32) ss) (words_fit ss)

-- ---- no sums
pub none_yet : (low high : List ℤ) → low ≡ replicate 4 (pos 0) → high ≡ replicate 4 (pos 0) → AreHighSums 0 low high ×
    (wholes low high ≡ replicate 4 (pos 0))
none_yet low high low_is high_is =
    let empty_rest : rest_of (pos 0) (pos 0) ≡ pos 0 = int_wrap_fits w32 (pos 0) (omega (arith, ints)) in
    let empty_whole : whole_of (pos 0) (pos 0) ≡ pos 0 = ap (λ r. (pos 0 *ℤ pos 65536) +ℤ r) empty_rest in
    let zero_part : AreParts 0 (pos 0) (pos 0) = record
    { rest = 0; rest_is = empty_rest; rest_small = omega arith; high_small = omega arith } in
    let empty : AreHighSums 0 (replicate 4 (pos 0)) (replicate 4 (pos 0)) = record {
      few = omega arith;
      low_fits = Each1-replicate (SFits w32) 4 (pos 0) (omega (arith, ints));
      high_fits = Each1-replicate (SFits w32) 4 (pos 0) (omega (arith, ints));
      low_long = refl;
      high_long = refl;
      parts = (zero_part, (zero_part, (zero_part, (zero_part, tt))));
    } in (
      subst (λ (l : List ℤ). AreHighSums 0 l high) (sym low_is)
          (subst (λ (l : List ℤ). AreHighSums 0 (replicate 4 (pos 0)) l) (sym high_is) empty),
      (λ i. wholes (low_is i) (high_is i)) ∙ (λ i. empty_whole i ∷ empty_whole i ∷ empty_whole i ∷ empty_whole i ∷ []),
    )

-- ---- the sums, shifted
floor_is : (z q : ℤ) (m : ℕ) → z ≡ (q *ℤ pos 32768) +ℤ pos m → m < 32768 → shr_z z (2 ^ 15) ≡ q
floor_is (pos a) (pos b) m is below = ap pos (let e : a / 32768 ≡ b =
    omega (arith, ints, is, below, div-add-mod' a 32768) in e)
floor_is (pos a) (negsuc b) m is below = absurd (omega (arith, ints, is, below))
floor_is (negsuc a) (pos b) m is below = absurd (omega (arith, ints, is, below))
floor_is (negsuc a) (negsuc b) m is below = ap negsuc
    (let e : a / 32768 ≡ b = omega (arith, ints, is, below, div-add-mod' a 32768) in e)

down_more : (h : ℤ) (r : ℕ) → shr_z ((h *ℤ pos 65536) +ℤ pos r) (2 ^ 15) ≡ (h +ℤ h) +ℤ shr_z (pos r) (2 ^ 15)
down_more h r = floor_is ((h *ℤ pos 65536) +ℤ pos r) ((h +ℤ h) +ℤ pos (r / 32768)) (r % 32768) (split h r)
    (mod_below r 32768 (omega arith))
  where
    split : (h : ℤ) (r : ℕ) → (h *ℤ pos 65536) +ℤ pos r ≡ (((h +ℤ h) +ℤ pos (r / 32768)) *ℤ pos 32768) +ℤ pos
        (r % 32768)
    split h r = omega (arith, ints, div-add-mod' r 32768)

shifted_fits : (n : ℕ) (h : ℤ) (r : ℕ) → n < 32768 → unsigned_abs h ≤ n * 32768 → r ≤ n * 65536 →
    SFits w32 ((h +ℤ h) +ℤ shr_z (pos r) (2 ^ 15))
shifted_fits n (pos a) r few small rest = omega (arith, ints, few, small, rest, div-add-mod' r 32768)
shifted_fits n (negsuc a) r few small rest = omega (arith, ints, few, small, rest, div-add-mod' r 32768)

abbrev shift_of : ℤ → ℤ → ℤ
shift_of low high = int_wrap w32 (int_wrap w32 (high +ℤ high) +ℤ shr_z
    (int_wrap w32 (low -ℤ int_wrap w32 (high *ℤ pos (2 ^ 16)))) (2 ^ 15))

minus_is : (low high : ℤ) → int_wrap w32 (low -ℤ int_wrap w32 (high *ℤ pos (2 ^ 16))) ≡ rest_of low high
minus_is low high = int_wrap-sub_right w32 low (high *ℤ pos (2 ^ 16)) ∙ ap (int_wrap w32) (turned low high)
  where
    turned : (a b : ℤ) → a -ℤ (b *ℤ pos (2 ^ 16)) ≡ a +ℤ (b *ℤ negsuc 65535)
    turned a b = omega (arith, ints)

shift_is : (n : ℕ) (low high : ℤ) → n < 32768 → AreParts n low high →
    shift_of low high ≡ shr_z (whole_of low high) (2 ^ 15)
shift_is n low high few parts =
    ap (λ z. int_wrap w32 (int_wrap w32 (high +ℤ high) +ℤ shr_z z (2 ^ 15))) (minus_is low high ∙ parts.rest_is)
    ∙ int_wrap-add_left w32 (high +ℤ high) (shr_z (pos parts.rest) (2 ^ 15))
    ∙ int_wrap_fits w32 ((high +ℤ high) +ℤ shr_z (pos parts.rest) (2 ^ 15))
    (shifted_fits n high parts.rest few parts.high_small parts.rest_small)
    ∙ sym (down_more high parts.rest)
    ∙ ap (λ r. shr_z ((high *ℤ pos 65536) +ℤ r) (2 ^ 15)) (sym parts.rest_is)

shifts_are : (n : ℕ) (low high : List ℤ) → n < 32768 → Each2 (AreParts n) low high →
    zip2 shift_of low high ≡ map (λ s. shr_z s (2 ^ 15)) (wholes low high)
shifts_are n [] high few parts = refl
shifts_are n (l ∷ low) [] few parts = refl
shifts_are n (l ∷ low) (h ∷ high) few parts = ap₂ (λ a l. a ∷ l) (shift_is n l h few parts.0)
    (shifts_are n low high few parts.1)

-- ---- lanes
abbrev halves_lanes : List ℤ → List ℕ
halves_lanes ps = zip2 (down_in w32) (zip2 (plus_in w32) (bits_of w32 ps) (replicate 4 (of_z w32 (negsuc 0))))
    (replicate 4 16)

pub low_raised : (low ps : List ℤ) → Each1 (SFits w32) low → Each1 (SFits w32) ps →
    map (to_z w32) (zip2 (plus_in w32) (bits_of w32 low) (bits_of w32 ps)) ≡ raised w32 low ps
low_raised low ps f g = (lanes_read w32 (zip2 (plus_in w32) (bits_of w32 low) (bits_of w32 ps)) (raised w32 low ps)
    (added w32 low ps f g) (raised_fit w32 low ps)).0

pub high_raised : (high ps : List ℤ) → Each1 (SFits w32) high → Each1 (SFits w32) ps → length ps ≡ 4
    → map (to_z w32) (zip2 (plus_in w32) (bits_of w32 high) (halves_lanes ps)) ≡ zip2
    (λ h p. int_wrap w32 (h +ℤ shr_z (int_wrap w32 (p +ℤ negsuc 0)) (2 ^ 16))) high ps
high_raised high ps f g long =
    let less : ℤ → ℤ = λ p. int_wrap w32 (p +ℤ negsuc 0) in
    let down : ℤ → ℤ = λ z. shr_z z (2 ^ 16) in
    let ds = map less ps in
    let fit : Each1 (SFits w32) ds = Each1-map (SFits w32) (SFits w32) less
    (λ p q. SFits-int_wrap w32 (p +ℤ negsuc 0)) ps g in
    let lanes : halves_lanes ps ≡ bits_of w32 (map down ds) =
    (λ i. zip2 (down_in w32) (zip2 (plus_in w32) (bits_of w32 ps) (splat_bits w32 4 (negsuc 0) i)) (replicate 4 16))
    ∙ ap (λ l. zip2 (down_in w32) l (replicate 4 16)) (added w32 ps (replicate 4 (negsuc 0)) g
    (Each1-replicate (SFits w32) 4 (negsuc 0) (omega (arith, ints))) ∙
    ap (bits_of w32) (zip2_splat (λ a b. int_wrap w32 (a +ℤ b)) ps 4 (negsuc 0) long))
    ∙ shifted w32 4 16 ds (length-map less ps ∙ long) fit in
    (lanes_read w32 (zip2 (plus_in w32) (bits_of w32 high) (halves_lanes ps)) (raised w32 high (map down ds))
    (ap (zip2 (plus_in w32) (bits_of w32 high)) lanes ∙ added w32 high (map down ds) f (each_shift_fits w32 16 ds fit))
    (raised_fit w32 high (map down ds))).0
    ∙ zip2-right (λ h d. int_wrap w32 (h +ℤ d)) down high ds
    ∙ zip2-right (λ h z. int_wrap w32 (h +ℤ down z)) less high ps

abbrev shifted_lanes : List ℤ → List ℤ → List ℕ
shifted_lanes low high =
    zip2 (plus_in w32) (zip2 (plus_in w32) (bits_of w32 high) (bits_of w32 high))
    (zip2 (down_in w32) (zip2 (act2 wrap_sub (s_int w32) (s_int w32) (s_int w32)) (bits_of w32 low)
    (zip2 (up_in w32) (bits_of w32 high) (replicate 4 16))) (replicate 4 15))

both_shifts : (low high : List ℤ)
    → raised w32 (raised w32 high high) (map (λ r. shr_z r (2 ^ 15))
    (zip2 (λ a b. int_wrap w32 (a -ℤ b)) low (map (λ h. int_wrap w32 (h *ℤ pos (2 ^ 16))) high))) ≡ zip2 shift_of
    low high
both_shifts [] [] = refl
both_shifts [] (h ∷ high) = refl
both_shifts (l ∷ low) [] = refl
both_shifts (l ∷ low) (h ∷ high) = ap (λ r. shift_of l h ∷ r) (both_shifts low high)

pub shifted_read : (n : ℕ) (low high : List ℤ) → AreHighSums n low high
    → (map (to_z w32) (shifted_lanes low high) ≡ map (λ s. shr_z s (2 ^ 15)) (wholes low high)) ×
    Each1 (SFits w32) (map (to_z w32) (shifted_lanes low high))
shifted_read n low high sums =
    let f = sums.low_fits in
    let g = sums.high_fits in
    let up : ℤ → ℤ = λ h. int_wrap w32 (h *ℤ pos (2 ^ 16)) in
    let rests = zip2 (λ a b. int_wrap w32 (a -ℤ b)) low (map up high) in
    let down : ℤ → ℤ = λ r. shr_z r (2 ^ 15) in
    let up_fit : Each1 (SFits w32) (map up high) = Each1-map (SFits w32) (SFits w32) up
    (λ h q. SFits-int_wrap w32 (h *ℤ pos (2 ^ 16))) high g in
    let rest_fit : Each1 (SFits w32) rests = summed_fit w32 (λ a b. a -ℤ b) low (map up high) in
    let long : length rests ≡ 4 = length-zip2 (λ a b. int_wrap w32 (a -ℤ b)) low (map up high)
    (sums.low_long ∙ sym (length-map up high ∙ sums.high_long)) ∙ sums.low_long in
    let twice_fit : Each1 (SFits w32) (raised w32 high high) = raised_fit w32 high high in
    let lanes : shifted_lanes low high ≡ bits_of w32 (raised w32 (raised w32 high high) (map down rests)) =
    (λ i. zip2 (plus_in w32) (added w32 high high g g i)
    (zip2 (down_in w32) (zip2 (act2 wrap_sub (s_int w32) (s_int w32) (s_int w32)) (bits_of w32 low)
    (shifted_up w32 4 16 high sums.high_long g (omega (arith, ints)) refl i)) (replicate 4 15)))
    ∙ ap (λ l. zip2 (plus_in w32) (bits_of w32 (raised w32 high high)) (zip2 (down_in w32) l (replicate 4 15)))
    (subtracted w32 low (map up high) f up_fit)
    ∙ ap (zip2 (plus_in w32) (bits_of w32 (raised w32 high high))) (shifted w32 4 15 rests long rest_fit)
    ∙ added w32 (raised w32 high high) (map down rests) twice_fit (each_shift_fits w32 15 rests rest_fit) in
    let read = lanes_read w32 (shifted_lanes low high) (raised w32 (raised w32 high high) (map down rests)) lanes
    (raised_fit w32 (raised w32 high high) (map down rests)) in
    (read.0 ∙ both_shifts low high ∙ shifts_are n low high sums.few sums.parts, read.1)
