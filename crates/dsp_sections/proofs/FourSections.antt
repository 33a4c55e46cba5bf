-- Four sections in lanes of 64 bits.
use Rattle.std.proofs.Common.{◌≡◌, ◌∙◌, ap, refl, sym, subst, ℕ, zero, suc, get_or, ◌+◌, ◌-◌, ◌*◌, ◌<◌, ◌≤◌, ◌^◌, ◌%◌}
use Rattle.std.proofs.Common.{ℤ, pos, ◌+ℤ◌, ◌*ℤ◌, List, [], ◌∷◌, length, map, replicate, arith, SFits, to_z, of_z}
use Rattle.std.proofs.Common.{lit<, pow_mono, negsuc, w8, w16, w32, w64}
use Rattle.std.specs.Prelude.{nat_abs}
use Rattle.std.specs.Int.{int_wrap, saturate_to_bits}
use Rattle.std.proofs.lemmas.Int.{ints, int_wrap_fits, SFits-int_wrap, int_wrap-add_left, int_wrap-add_right}
use Rattle.std.proofs.lemmas.Int.{to_z-of_z, unsigned_abs-mul}
use Rattle.std.proofs.lemmas.List.FromFn.{get_or-map-range_with_len}
use Rattle.std.proofs.Math.Facts.{Fits-of_z}
use Rattle.std.proofs.Math.ListN.{get_or-map}
use Rattle.std.proofs.Math.Nat.{mul-le-mul}
use lib.Lanes.{zip2, Each1}
use lib.Signed.{shr_z, mag}
use Rattle.dsp_sat.proofs.WideProducts.{word-in-32}
use Rattle.dsp_sat.proofs.Words.{abs_within, product_fits, shift_fits}
use Rattle.dsp_defs.specs.Biquad.{section_close}
use Rattle.dsp_defs.specs.Signal.{sample, values}
use Rattle.dsp_defs.specs.declared.format.Fmt.{Fmt}
use Rattle.dsp_defs.specs.declared.format.Fmt.TheVariants.{Q7, Q15, Q31}
use Rattle.dsp_defs.specs.Formats.{word}
use Rattle.dsp_sections.specs.SectionWaves.{low, AreWords, AreSections, IsSum}
use Rattle.dsp_sections.specs.declared.wave_lanes.WaveLanes.{WaveLanes}
use Rattle.dsp_lanes.proofs.HalfSums.{by_four, evens}
use Rattle.dsp_lanes.proofs.LaneOps.{bits_of, ints_of_bits, Each1-map, greater, lesser, saturates_to, saturated_fits}
use Rattle.dsp_lanes.proofs.LaneSums.{plus_in, times_in}
use Rattle.dsp_lanes.proofs.LaneClosings.{low_lanes, low_word}
use Rattle.dsp_lanes.proofs.WordViews.{halves, halves_fit, narrow_are, narrow_lanes, pairs, pairs_low, wide_are}
use Rattle.dsp_lanes.proofs.WordViews.{wide_lanes}
use Rattle.dsp_sections.proofs.LaneValues.{AreValues, of_list, same_values, sums, multiples, downs, ups, all_fit}
use Rattle.dsp_sections.proofs.LaneValues.{read_values, sample_fits}
use Rattle.dsp_sections.proofs.UnsignedLanes.{low_word_is}

listed : (xs : List ℤ) → length xs ≡ 4 → Each1 (SFits w64) xs → AreValues w64 4 (bits_of w64 xs) (sample xs)
listed xs long f = of_list w64 4 xs long f (omega (arith, ints))

-- the low words of lanes
lows : (xs : List ℤ) → length xs ≡ 4 → Each1 (SFits w64) xs → AreValues w64 4 (low_lanes 4 (bits_of w64 xs)) (low xs)
lows xs long f =
    same_values w64 4 (low xs) (downs w64 4 32 (ups w64 4 32 (omega (arith, ints)) (listed xs long f)))
    (λ i. low_word (sample xs i))

pub low_products_read : (xs ys : List ℤ) → length xs ≡ 4 → length ys ≡ 4 → Each1 (SFits w64) xs → Each1 (SFits w64) ys →
    (map (to_z w64) (zip2 (times_in w64) (low_lanes 4 (bits_of w64 xs)) (low_lanes 4 (bits_of w64 ys))) ≡ values 4
    (λ i. low xs i *ℤ low ys i))
    × Each1 (SFits w64) (map (to_z w64) (zip2 (times_in w64) (low_lanes 4 (bits_of w64 xs))
    (low_lanes 4 (bits_of w64 ys))))
low_products_read xs ys long long' f f' =
    read_values w64 4 (same_values w64 4 (λ i. low xs i *ℤ low ys i)
    (multiples w64 4 (lows xs long f) (lows ys long' f'))
    (λ i. int_wrap_fits w64 (low xs i *ℤ low ys i) (product_fits w64 w32 w32 (low xs i) (low ys i)
    (SFits-int_wrap w32 (sample xs i)) (SFits-int_wrap w32 (sample ys i)) (lit< tt))))

-- wrapped additions are the wrapped sum
in_order : (p0 p1 p2 p3 p4 : ℤ) → int_wrap w64 (int_wrap w64 (int_wrap w64 (p1 +ℤ p2) +ℤ p4) +ℤ int_wrap w64
    (p0 +ℤ p3)) ≡ int_wrap w64 (p0 +ℤ p1 +ℤ p2 +ℤ (p3 +ℤ p4))
in_order p0 p1 p2 p3 p4 =
    int_wrap-add_right w64 (int_wrap w64 (int_wrap w64 (p1 +ℤ p2) +ℤ p4)) (p0 +ℤ p3)
    ∙ int_wrap-add_left w64 (int_wrap w64 (p1 +ℤ p2) +ℤ p4) (p0 +ℤ p3)
    ∙ ap (int_wrap w64) (third (int_wrap w64 (p1 +ℤ p2)) p4 (p0 +ℤ p3))
    ∙ int_wrap-add_left w64 (p1 +ℤ p2) (p4 +ℤ (p0 +ℤ p3))
    ∙ ap (int_wrap w64) (order p0 p1 p2 p3 p4)
  where
    third : (a b c : ℤ) → a +ℤ b +ℤ c ≡ a +ℤ (b +ℤ c)
    third a b c = omega (arith, ints)

    order : (p0 p1 p2 p3 p4 : ℤ) → p1 +ℤ p2 +ℤ (p4 +ℤ (p0 +ℤ p3)) ≡ p0 +ℤ p1 +ℤ p2 +ℤ (p3 +ℤ p4)
    order p0 p1 p2 p3 p4 = omega (arith, ints)

module _ (a b c d e : List ℤ) (la : length a ≡ 4) (lb : length b ≡ 4) (lc : length c ≡ 4) (ld : length d ≡ 4)
    (le : length e ≡ 4)
    (fa : Each1 (SFits w64) a) (fb : Each1 (SFits w64) b) (fc : Each1 (SFits w64) c) (fd : Each1 (SFits w64) d)
    (fe : Each1 (SFits w64) e) where
  abbrev five_lanes : List ℕ
  five_lanes = zip2 (plus_in w64) (zip2 (plus_in w64) (zip2 (plus_in w64) (bits_of w64 b) (bits_of w64 c))
      (bits_of w64 e)) (zip2 (plus_in w64) (bits_of w64 a) (bits_of w64 d))

  pub five_read : (map (to_z w64) five_lanes ≡ values 4
      (λ i. int_wrap w64 (sample a i +ℤ sample b i +ℤ sample c i +ℤ (sample d i +ℤ sample e i)))) ×
      Each1 (SFits w64) (map (to_z w64) five_lanes)
  five_read = read_values w64 4 (same_values w64 4 (λ i. int_wrap w64
      (sample a i +ℤ sample b i +ℤ sample c i +ℤ (sample d i +ℤ sample e i)))
      (sums w64 4 (sums w64 4 (sums w64 4 (listed b lb fb) (listed c lc fc)) (listed e le fe))
      (sums w64 4 (listed a la fa) (listed d ld fd)))
      (λ i. in_order (sample a i) (sample b i) (sample c i) (sample d i) (sample e i)))

-- ---- Q31
pub closed_32_value : (s y : List ℤ) → Each1 (SFits w64) s → (p : ℕ)
    → map (int_wrap w32) y ≡ values 4 (λ i. int_wrap w32 (shr_z (sample s i) (2 ^ (31 - p))))
    → map (int_wrap w32) y ≡ values 4 (λ i. section_close Q31 p (sample s i))
closed_32_value s y f p are =
    are ∙ (λ t. values 4 (λ i. int_wrap w32 (shr_z (sym (int_wrap_fits w64 (sample s i)
    (sample_fits w64 s f (omega (arith, ints)) i)) t) (2 ^ (31 - p)))))

-- ---- Q15
-- the low word of a lane is that of the list of low words
low_sample : (xs : List ℤ) (i : ℕ) → low xs i ≡ sample (map (int_wrap w32) xs) i
low_sample xs i =
    sym (ap (get_or (map (int_wrap w32) xs) i) (sym (int_wrap_fits w32 (pos 0) (record { sfits = omega arith }))) ∙
    get_or-map (int_wrap w32) xs i (pos 0))

word_32 : (x : ℤ) → SFits w32 (saturate_to_bits 15 x)
word_32 x = let h : SFits w16 (saturate_to_bits 15 x) = saturated_fits w16 x in
    record { sfits = omega (arith, h.sfits) }

-- lanes of which each word is clamped to 16 bits
module _ (words : List ℤ) (long : length words ≡ 4) (f : Each1 (SFits w64) words) where
  abbrev clamp_16 : List ℕ → List ℕ
  clamp_16 lanes = greater w32 (lesser w32 lanes (replicate 8 (of_z w32 (pos 32767))))
      (replicate 8 (of_z w32 (negsuc 32767)))

  abbrev clamped_lanes : List ℕ
  clamped_lanes = wide_lanes (clamp_16 (narrow_lanes (bits_of w64 words)))

  abbrev clamped : List ℤ
  clamped = map (saturate_to_bits 15) (halves words)

  clamped_fit : Each1 (SFits w32) clamped
  clamped_fit = Each1-map (SFits w32) (SFits w32) (saturate_to_bits 15) (λ x h. word_32 x) (halves words)
      (halves_fit words f)

  clamped_wide : (wide_lanes (bits_of w32 clamped) ≡ bits_of w64 (pairs clamped)) × (length (pairs clamped) ≡ 4)
      × Each1 (SFits w64) (pairs clamped)
  clamped_wide =
      let still : length clamped ≡ 8 = by_four (λ ws. length (map (saturate_to_bits 15) (halves ws)) ≡ 8)
      (λ a b c d. refl) words long in
      wide_are clamped still clamped_fit

  clamped_read : map (to_z w64) clamped_lanes ≡ pairs clamped
  clamped_read =
      let eight : length (halves words) ≡ 8 = by_four (λ ws. length (halves ws) ≡ 8) (λ a b c d. refl) words long in
      ap (λ l. map (to_z w64) (wide_lanes l)) (ap clamp_16 (narrow_are words long f)
      ∙ saturates_to w32 15 8 (halves words) eight (halves_fit words f) (omega (arith, ints)) (omega (arith, ints)))
      ∙ ap (map (to_z w64)) clamped_wide.0 ∙ ints_of_bits w64 (pairs clamped) clamped_wide.2

  pub clamped_lows : map (int_wrap w32) (map (to_z w64) clamped_lanes) ≡ values 4
      (λ i. saturate_to_bits 15 (low words i))
  clamped_lows =
      ap (map (int_wrap w32)) clamped_read
      ∙ pairs_low clamped clamped_fit
      ∙ by_four (λ ws. evens (map (saturate_to_bits 15) (halves ws)) ≡ values 4
      (λ i. saturate_to_bits 15 (to_z w32 (of_z w64 (sample ws i) % 2 ^ 32)))) (λ a b c d. refl) words long
      ∙ (λ t. values 4 (λ i. saturate_to_bits 15 (low_word_is (sample words i)
      (sample_fits w64 words f (omega (arith, ints)) i) t)))

  pub clamped_words : AreWords Q15 (map (to_z w64) clamped_lanes)
  clamped_words = record {
    four = ap length clamped_read ∙ clamped_wide.1;
    wide = subst (λ (l : List ℤ). Each1 (SFits w64) l) (sym clamped_read) clamped_wide.2;
    words = λ i.
        let xs = map (to_z w64) clamped_lanes in
        let h : ℕ → ℤ = λ k. saturate_to_bits 15 (low words k) in
        let fits = sample_fits w16 (values 4 h) (all_fit w16 4 h (λ k. saturated_fits w16 (low words k)))
        (omega (arith, ints)) i in
        subst (SFits w16) (sym (low_sample xs i ∙ ap (λ (l : List ℤ). sample l i) clamped_lows)) fits;
  }

magnitude : (z : ℤ) → nat_abs z < 2 ^ 33 → mag z < 2 ^ 33
magnitude (pos n) h = omega (arith, h)
magnitude (negsuc n) h = omega (arith, h)

module _ (s : List ℤ) (small : (i : ℕ) → nat_abs (sample s i) < 2 ^ 33) (p : ℕ) (few : p ≤ 13) where
  abbrev wanted : ℕ → ℤ
  wanted i = shr_z (sample s i) (2 ^ (15 - p))

  narrow : (i : ℕ) → SFits w32 (wanted i)
  narrow i =
      let more : 2 ^ 33 ≤ 2 ^ (31 + (15 - p)) = pow_mono {i = 33} {j = 31 + (15 - p)} (omega (arith, few)) in
      let less = magnitude (sample s i) (small i) in
      shift_fits w32 (sample s i) (15 - p) (omega (arith, less, more))

  pub closed_16_value : (words outputs : List ℤ) → map (int_wrap w32) words ≡ values 4 (λ i. int_wrap w32 (wanted i))
      → map (int_wrap w32) outputs ≡ values 4 (λ i. saturate_to_bits 15 (low words i))
      → map (int_wrap w32) outputs ≡ values 4 (λ i. section_close Q15 p (sample s i))
  closed_16_value words outputs are clamped =
      clamped
      ∙ (λ t. values 4 (λ i. saturate_to_bits 15 (low_sample words i t)))
      ∙ (λ t. values 4 (λ i. saturate_to_bits 15 (sample (are t) i)))
      ∙ (λ t. values 4 (λ i. saturate_to_bits 15 (int_wrap_fits w32 (wanted i) (narrow i) t)))

-- ---- a turn
-- lanes moved up by one
pub up_read : (first : ℤ) (xs : List ℤ) → SFits w64 first → length xs ≡ 4 → Each1 (SFits w64) xs →
    to_z w64 (of_z w64 first) ∷ to_z w64 (get_or (bits_of w64 xs) 0 0) ∷ to_z w64 (get_or (bits_of w64 xs) 1 0) ∷ to_z
    w64 (get_or (bits_of w64 xs) 2 0) ∷ [] ≡ first ∷ sample xs 0 ∷ sample xs 1 ∷ sample xs 2 ∷ []
up_read first (a ∷ b ∷ c ∷ d ∷ []) f e g = λ i. to_z-of_z w64 first f i ∷ to_z-of_z w64 a g.0 i ∷ to_z-of_z w64 b
    g.1.0 i ∷ to_z-of_z w64 c g.1.1.0 i ∷ []
up_read first [] f e g = absurd (omega (arith, e))
up_read first (a ∷ []) f e g = absurd (omega (arith, e))
up_read first (a ∷ b ∷ []) f e g = absurd (omega (arith, e))
up_read first (a ∷ b ∷ c ∷ []) f e g = absurd (omega (arith, e))
up_read first (a ∷ b ∷ c ∷ d ∷ h ∷ xs) f e g = absurd (omega (arith, e))

-- what holds of each value and of 0 holds of each lane
each_of_four : (P : ℤ → Type 0) (g : ℕ → ℤ) → P (pos 0) → ((i : ℕ) → P (g i)) → (i : ℕ) → P (sample (values 4 g) i)
each_of_four P g none all zero = all 0
each_of_four P g none all (suc zero) = all 1
each_of_four P g none all (suc (suc zero)) = all 2
each_of_four P g none all (suc (suc (suc zero))) = all 3
each_of_four P g none all (suc (suc (suc (suc i)))) = none

-- the lanes that are read back
pub back : (xs : List ℤ) → Each1 (SFits w64) xs → map (to_z w64) (map (of_z w64) xs) ≡ xs
back xs f = ints_of_bits w64 xs f

pub back_fits : (xs : List ℤ) → Each1 (SFits w64) xs → Each1 (SFits w64) (map (to_z w64) (map (of_z w64) xs))
back_fits xs f = subst (λ (l : List ℤ). Each1 (SFits w64) l) (sym (back xs f)) f

pub back_four : (lanes : List ℤ) → Each1 (SFits w64) lanes → length lanes ≡ 4 →
    length (map (to_z w64) (map (of_z w64) lanes)) ≡ 4
back_four lanes wide four = ap length (back lanes wide) ∙ four

-- the low word of a lane of which the low words are known
low_of : (xs : List ℤ) (h : ℕ → ℤ) → map (int_wrap w32) xs ≡ values 4 h → (i : ℕ) → i < 4 → low xs i ≡ h i
low_of xs h is i inside = low_sample xs i ∙ ap (λ l. sample l i) is ∙ get_or-map-range_with_len h 0 4 i i (pos 0) inside
    (omega arith)

-- ---- sums
pub abs_sum : (x y : ℤ) → nat_abs (x +ℤ y) ≤ nat_abs x + nat_abs y
abs_sum x y = omega (arith, ints)

abbrev pub total : ℤ → ℤ → ℤ → ℤ → ℤ → ℤ → ℤ → ℤ → ℤ → ℤ → ℤ
total b0 b1 b2 a1 a2 x x1 x2 y1 y2 = b0 *ℤ x +ℤ b1 *ℤ x1 +ℤ b2 *ℤ x2 +ℤ (a1 *ℤ y1 +ℤ a2 *ℤ y2)

product_16 : (a b : ℤ) → SFits w16 a → SFits w16 b → nat_abs (a *ℤ b) ≤ 2 ^ 30
product_16 a b f g = rw unsigned_abs-mul (mul-le-mul (abs_within w16 a f) (abs_within w16 b g))

five_small : (p0 p1 p2 p3 p4 : ℤ) → nat_abs p0 ≤ 2 ^ 30 → nat_abs p1 ≤ 2 ^ 30 → nat_abs p2 ≤ 2 ^ 30 →
    nat_abs p3 ≤ 2 ^ 30 → nat_abs p4 ≤ 2 ^ 30 → nat_abs (p0 +ℤ p1 +ℤ p2 +ℤ (p3 +ℤ p4)) < 2 ^ 33
five_small p0 p1 p2 p3 p4 h0 h1 h2 h3 h4 =
    let two = abs_sum p0 p1 in
    let three = abs_sum (p0 +ℤ p1) p2 in
    let late = abs_sum p3 p4 in
    let all = abs_sum (p0 +ℤ p1 +ℤ p2) (p3 +ℤ p4) in
    omega (arith, two, three, late, all, h0, h1, h2, h3, h4)

small_fits : (z : ℤ) → nat_abs z < 2 ^ 33 → SFits w64 z
small_fits (pos n) h = record { sfits = omega (arith, h) }
small_fits (negsuc n) h = record { sfits = omega (arith, h) }

total_16 : (b0 b1 b2 a1 a2 x x1 x2 y1 y2 : ℤ) → SFits w16 b0 → SFits w16 b1 → SFits w16 b2 → SFits w16 a1 →
    SFits w16 a2 → SFits w16 x → SFits w16 x1 → SFits w16 x2 → SFits w16 y1 → SFits w16 y2
    → nat_abs (total b0 b1 b2 a1 a2 x x1 x2 y1 y2) < 2 ^ 33
total_16 b0 b1 b2 a1 a2 x x1 x2 y1 y2 f0 f1 f2 f3 f4 g0 g1 g2 g3 g4 =
    five_small (b0 *ℤ x) (b1 *ℤ x1) (b2 *ℤ x2) (a1 *ℤ y1) (a2 *ℤ y2) (product_16 b0 x f0 g0) (product_16 b1 x1 f1 g1)
    (product_16 b2 x2 f2 g2) (product_16 a1 y1 f3 g3) (product_16 a2 y2 f4 g4)

pub byte : (z : ℤ) → SFits w8 z → SFits w16 z
byte z f = record { sfits = omega (arith, f.sfits) }

-- the wrapped sum is one that is closed as the sum is
sum_closes : (format : Fmt) (p : ℕ) (b0 b1 b2 a1 a2 x x1 x2 y1 y2 : ℤ) → SFits (word format) b0 →
    SFits (word format) b1 → SFits (word format) b2 → SFits (word format) a1 → SFits (word format) a2
    → SFits (word format) x → SFits (word format) x1 → SFits (word format) x2 → SFits (word format) y1 →
    SFits (word format) y2
    → IsSum format (int_wrap w64 (total b0 b1 b2 a1 a2 x x1 x2 y1 y2)) ×
    (section_close format p (int_wrap w64 (total b0 b1 b2 a1 a2 x x1 x2 y1 y2)) ≡ section_close format p
    (total b0 b1 b2 a1 a2 x x1 x2 y1 y2))
sum_closes Q7 p b0 b1 b2 a1 a2 x x1 x2 y1 y2 f0 f1 f2 f3 f4 g0 g1 g2 g3 g4 =
    let z = total b0 b1 b2 a1 a2 x x1 x2 y1 y2 in
    let small = total_16 b0 b1 b2 a1 a2 x x1 x2 y1 y2 (byte b0 f0) (byte b1 f1) (byte b2 f2) (byte a1 f3) (byte a2 f4)
    (byte x g0) (byte x1 g1) (byte x2 g2) (byte y1 g3) (byte y2 g4) in
    let is = int_wrap_fits w64 z (small_fits z small) in
    (subst (λ v. nat_abs v < 2 ^ 33) (sym is) small, ap (section_close Q7 p) is)
sum_closes Q15 p b0 b1 b2 a1 a2 x x1 x2 y1 y2 f0 f1 f2 f3 f4 g0 g1 g2 g3 g4 =
    let z = total b0 b1 b2 a1 a2 x x1 x2 y1 y2 in
    let small = total_16 b0 b1 b2 a1 a2 x x1 x2 y1 y2 f0 f1 f2 f3 f4 g0 g1 g2 g3 g4 in
    let is = int_wrap_fits w64 z (small_fits z small) in
    (subst (λ v. nat_abs v < 2 ^ 33) (sym is) small, ap (section_close Q15 p) is)
sum_closes Q31 p b0 b1 b2 a1 a2 x x1 x2 y1 y2 f0 f1 f2 f3 f4 g0 g1 g2 g3 g4 =
    let z = total b0 b1 b2 a1 a2 x x1 x2 y1 y2 in
    (tt, ap (λ v. int_wrap w32 (shr_z v (2 ^ (31 - p)))) (int_wrap_fits w64 (int_wrap w64 z) (SFits-int_wrap w64 z)))

no_sum : (format : Fmt) → IsSum format (pos 0)
no_sum Q7 = omega arith
no_sum Q15 = omega arith
no_sum Q31 = tt

-- ---- the steps of a turn
pub product_known : (a b A B q : List ℤ) → A ≡ a → B ≡ b → q ≡ values 4 (λ i. low A i *ℤ low B i) → Each1 (SFits w64) q
    → map (to_z w64) (map (of_z w64) q) ≡ values 4 (λ i. low a i *ℤ low b i)
product_known a b A B q is_a is_b is f = back q f ∙ is ∙ (λ t. values 4 (λ i. low (is_a t) i *ℤ low (is_b t) i))

pub sum_known : (s p0 p1 p2 p3 p4 : List ℤ) (f0 f1 f2 f3 f4 : ℕ → ℤ) → p0 ≡ values 4 f0 → p1 ≡ values 4 f1 →
    p2 ≡ values 4 f2 → p3 ≡ values 4 f3 → p4 ≡ values 4 f4
    → s ≡ values 4 (λ i. int_wrap w64 (sample p0 i +ℤ sample p1 i +ℤ sample p2 i +ℤ (sample p3 i +ℤ sample p4 i))) →
    Each1 (SFits w64) s
    → map (to_z w64) (map (of_z w64) s) ≡ values 4 (λ i. int_wrap w64 (f0 i +ℤ f1 i +ℤ f2 i +ℤ (f3 i +ℤ f4 i)))
sum_known s p0 p1 p2 p3 p4 f0 f1 f2 f3 f4 e0 e1 e2 e3 e4 is f =
    back s f ∙ is ∙ (λ t. values 4 (λ i. int_wrap w64 (sample (e0 t) i +ℤ sample (e1 t) i +ℤ sample (e2 t) i +ℤ
    (sample (e3 t) i +ℤ sample (e4 t) i))))

zero_fits : (format : Fmt) → SFits (word format) (int_wrap w32 (pos 0))
zero_fits Q7 = subst (SFits w8) (sym (int_wrap_fits w32 (pos 0) (record { sfits = omega arith })))
    (record { sfits = omega arith })
zero_fits Q15 = subst (SFits w16) (sym (int_wrap_fits w32 (pos 0) (record { sfits = omega arith })))
    (record { sfits = omega arith })
zero_fits Q31 = SFits-int_wrap w32 (pos 0)

-- lanes moved up are words
pub moved_words : (format : Fmt) (first : ℤ) (before xs : List ℤ) → SFits (word format) (int_wrap w32 first) →
    AreWords format before → xs ≡ first ∷ sample before 0 ∷ sample before 1 ∷ sample before 2 ∷ [] →
    Each1 (SFits w64) xs → AreWords format xs
moved_words format first before xs f words is wide = record {
  four = ap length is;
  wide = wide;
  words = subst (λ (l : List ℤ). (i : ℕ) → SFits (word format) (low l i)) (sym is) each;
}
  where
    each : (i : ℕ) → SFits (word format) (low (first ∷ sample before 0 ∷ sample before 1 ∷ sample before 2 ∷ []) i)
    each zero = f
    each (suc zero) = words.words 0
    each (suc (suc zero)) = words.words 1
    each (suc (suc (suc zero))) = words.words 2
    each (suc (suc (suc (suc i)))) = zero_fits format

-- a sample's word alone, in 64 bits, is read as the sample
pub word_read : (format : Fmt) (first n z : ℤ) → SFits (word format) n → n ≡ z →
    first ≡ pos (of_z w32 (to_z w32 (of_z w32 n))) →
    int_wrap w32 (to_z w64 (of_z w64 first)) ≡ z
word_read format first n z fits same is =
    let narrow = word-in-32 format n fits in
    let below = (Fits-of_z narrow).fits in
    let wide : SFits w64 (pos (of_z w32 n)) = record { sfits = omega (arith, below) } in
    let whole : of_z w32 n % 2 ^ 32 ≡ of_z w32 n = omega (arith, below) in
    ap (λ v. int_wrap w32 (to_z w64 (of_z w64 v))) (is ∙ ap (λ v. pos (of_z w32 v)) (to_z-of_z w32 n narrow))
    ∙ ap (int_wrap w32) (to_z-of_z w64 (pos (of_z w32 n)) wide)
    ∙ sym (low_word_is (pos (of_z w32 n)) wide)
    ∙ ap (to_z w32) whole
    ∙ to_z-of_z w32 n narrow
    ∙ same

-- the last lane, as it is read
fourth_read : (xs : List ℤ) (v : ℤ) → length xs ≡ 4 → v ≡ get_or xs 3 v → v ≡ sample xs 3
fourth_read (a ∷ b ∷ c ∷ d ∷ []) v e is = is
fourth_read [] v e is = absurd (omega (arith, e))
fourth_read (a ∷ []) v e is = absurd (omega (arith, e))
fourth_read (a ∷ b ∷ []) v e is = absurd (omega (arith, e))
fourth_read (a ∷ b ∷ c ∷ []) v e is = absurd (omega (arith, e))
fourth_read (a ∷ b ∷ c ∷ d ∷ h ∷ xs) v e is = absurd (omega (arith, e))

pub last_known : (ys : List ℤ) (v r : ℤ) → length ys ≡ 4 → Each1 (SFits w64) ys →
    v ≡ get_or (map (to_z w64) (map (of_z w64) ys)) 3 v → SFits w32 r → r ≡ int_wrap w32 (to_z w64 (of_z w64 v)) →
    to_z w32 (of_z w32 r) ≡ low ys 3
last_known ys v r four f is fits word =
    let here = fourth_read ys v four (is ∙ ap (λ l. get_or l 3 v) (back ys f)) in
    let wide = sample_fits w64 ys f (omega (arith, ints)) 3 in
    to_z-of_z w32 r fits ∙ word ∙ ap (λ x. int_wrap w32 (to_z w64 (of_z w64 x))) here ∙
    ap (int_wrap w32) (to_z-of_z w64 (sample ys 3) wide)

pub words_back : (format : Fmt) (xs : List ℤ) → AreWords format xs →
    AreWords format (map (to_z w64) (map (of_z w64) xs))
words_back format xs words = subst (λ (l : List ℤ). AreWords format l) (sym (back xs words.wide)) words

module _ (format : Fmt) (l : WaveLanes) (p : ℕ) (whole : AreSections format l) (x0 : List ℤ)
    (given : AreWords format x0) where
  abbrev sum_at : ℕ → ℤ
  sum_at i = total (low l.b0 i) (low l.b1 i) (low l.b2 i) (low l.a1 i) (low l.a2 i) (low x0 i) (low l.x1 i)
      (low l.x2 i) (low l.y1 i) (low l.y2 i)

  closes_at : (i : ℕ) → IsSum format (int_wrap w64 (sum_at i)) ×
      (section_close format p (int_wrap w64 (sum_at i)) ≡ section_close format p (sum_at i))
  closes_at i = sum_closes format p (low l.b0 i) (low l.b1 i) (low l.b2 i) (low l.a1 i) (low l.a2 i) (low x0 i)
      (low l.x1 i) (low l.x2 i) (low l.y1 i) (low l.y2 i)
      (whole.b0.words i) (whole.b1.words i) (whole.b2.words i) (whole.a1.words i) (whole.a2.words i) (given.words i)
      (whole.x1.words i) (whole.x2.words i) (whole.y1.words i) (whole.y2.words i)

  pub are_sums : (s : List ℤ) → s ≡ values 4 (λ i. int_wrap w64 (sum_at i)) → (i : ℕ) → IsSum format (sample s i)
  are_sums s is = subst (λ (k : List ℤ). (i : ℕ) → IsSum format (sample k i)) (sym is)
      (each_of_four (IsSum format) (λ i. int_wrap w64 (sum_at i)) (no_sum format) (λ i. (closes_at i).0))

  pub outputs_at : (s y : List ℤ) → s ≡ values 4 (λ i. int_wrap w64 (sum_at i)) →
      map (int_wrap w32) y ≡ values 4 (λ i. section_close format p (sample s i))
      → (i : ℕ) → i < 4 → low y i ≡ section_close format p (sum_at i)
  outputs_at s y is closed i inside =
      low_of y (λ k. section_close format p (int_wrap w64 (sum_at k)))
      (closed ∙ (λ t. values 4 (λ k. section_close format p (sample (is t) k)))) i inside
      ∙ (closes_at i).1
