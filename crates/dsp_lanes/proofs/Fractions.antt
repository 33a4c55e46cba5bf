-- Products of 16-bit samples and a coefficient as fractions, in lanes of 16 bits.
use Rattle.std.proofs.Common.{ℕ, ◌≡◌, ◌≢◌, ◌<◌, ◌≤◌, ◌-◌, ◌*◌, ◌%◌, zero, suc, List, [], ◌∷◌, length, map, replicate}
use Rattle.std.proofs.Common.{refl, sym, ap, ap₂, subst, ◌∙◌, arith, w16, w32, lit<, ◌≤ℤ◌, ◌<ℤ◌}
use Rattle.std.proofs.lemmas.Int.{ints, int_wrap_fits, unsigned_abs-mul}
use Rattle.std.proofs.lemmas.Nat.{div-add-mod', mod_below}
use Rattle.std.proofs.lemmas.Simd.{length-zip2, Each1-replicate, zip2_splat}
use Rattle.std.proofs.Math.Nat.{mul-le-mul}
use Rattle.std.specs.Prelude.{ℤ, pos, negsuc, ◌+ℤ◌, ◌-ℤ◌, ◌*ℤ◌, unsigned_abs}
use Rattle.std.specs.Int.{int_wrap, saturate_to_bits}
use lib.IntN.{*ℤ_comm, zero-*ℤ, suc_ℤ-*ℤ, pred_ℤ-*ℤ}
use lib.Lanes.{zip2, Each1}
use lib.Signed.{shr_z}
use mir.Val.{SFits, to_z, of_z}
use Rattle.dsp_sat.proofs.Words.{product_shift_fits, abs_within}
use borrow.Table.Row.{s_int}
use borrow.Rule.Simd.Lanes.{act2}
use mir.Syntax.{Width, wrap_sub}
use Rattle.dsp_lanes.proofs.LaneOps.{bits_of, splat_bits, cast_lanes, widened, casts_asked, casts_are, added}
use Rattle.dsp_lanes.proofs.LaneOps.{subtracted, each_widens, each_pair, Each1-map, zip2-same, map-zip2, shifted}
use Rattle.dsp_lanes.proofs.LaneOps.{narrowed, narrow_asked, narrow_is, saturated_fits}
use Rattle.dsp_lanes.proofs.LaneSums.{plus_in, times_in, products_in, lanes_read, raised, raised_fit, summed_fit}
use Rattle.dsp_lanes.proofs.LaneClosings.{Castable, down_in}

-- ---- one product

-- the floor of a division by 2^15 or 2^16
pub floored : (z : ℤ) (m : ℕ) → 0 < m → (r : ℕ) × (r < m) × (z ≡ shr_z z m *ℤ pos m +ℤ pos r)
floored (pos a) m some = (a % m, mod_below a m some, omega (arith, ints, div-add-mod' a m))
floored (negsuc a) m some =
    let small = mod_below a m some in
    (m - 1 - a % m, omega (arith, small), omega (arith, ints, small, div-add-mod' a m))

pub fits_16 : (z : ℤ) → negsuc 32767 ≤ℤ z → z ≤ℤ pos 32767 → SFits w16 z
fits_16 (pos n) low high = record { sfits = omega (arith, ints, high) }
fits_16 (negsuc n) low high = record { sfits = omega (arith, ints, low) }

between : (p : ℤ) (n : ℕ) → unsigned_abs p ≤ suc n → (negsuc n ≤ℤ p) × (p ≤ℤ pos (suc n))
between (pos m) n small = (omega (arith, ints, small), omega (arith, ints, small))
between (negsuc m) n small = (omega (arith, ints, small), omega (arith, ints, small))

abs_apart : (a : ℤ) → SFits w16 a → a ≢ negsuc 32767 → unsigned_abs a ≤ 32767
abs_apart (pos n) fits apart = let small : n < 32768 = fits.sfits in omega (arith, small)
abs_apart (negsuc n) fits apart = let small : n < 32768 = fits.sfits in let other : n ≢ 32767 = λ e. apart
    (ap negsuc e) in omega (arith, small, other)

more : (a b c u s k : ℤ) → a +ℤ b *ℤ pos 65536 ≡ pos 2 *ℤ c → u +ℤ s *ℤ pos 65536 ≡ pos 2 *ℤ k
    → a +ℤ u +ℤ (b +ℤ s) *ℤ pos 65536 ≡ pos 2 *ℤ (c +ℤ k)
more a b c u s k e d = omega (arith, ints, e, d)

less : (a b c u s k : ℤ) → a +ℤ b *ℤ pos 65536 ≡ pos 2 *ℤ c → u +ℤ s *ℤ pos 65536 ≡ pos 2 *ℤ k
    → a -ℤ u +ℤ (b -ℤ s) *ℤ pos 65536 ≡ pos 2 *ℤ (c -ℤ k)
less a b c u s k e d = omega (arith, ints, e, d)

no-times : (u s k : ℤ) → pos zero *ℤ u +ℤ pos zero *ℤ s *ℤ pos 65536 ≡ pos 2 *ℤ (pos zero *ℤ k)
no-times u s k = (λ i. zero-*ℤ u i +ℤ zero-*ℤ s i *ℤ pos 65536) ∙ ap (λ z. pos 2 *ℤ z) (sym (zero-*ℤ k))

-- a factor on both sides
times : (x u s k : ℤ) → u +ℤ s *ℤ pos 65536 ≡ pos 2 *ℤ k → x *ℤ u +ℤ x *ℤ s *ℤ pos 65536 ≡ pos 2 *ℤ (x *ℤ k)
times (pos zero) u s k d = no-times u s k
times (pos (suc n)) u s k d =
    (λ i. suc_ℤ-*ℤ (pos n) u i +ℤ suc_ℤ-*ℤ (pos n) s i *ℤ pos 65536)
    ∙ more (pos n *ℤ u) (pos n *ℤ s) (pos n *ℤ k) u s k (times (pos n) u s k d) d
    ∙ ap (λ z. pos 2 *ℤ z) (sym (suc_ℤ-*ℤ (pos n) k))
times (negsuc zero) u s k d =
    (λ i. pred_ℤ-*ℤ (pos zero) u i +ℤ pred_ℤ-*ℤ (pos zero) s i *ℤ pos 65536)
    ∙ less (pos zero *ℤ u) (pos zero *ℤ s) (pos zero *ℤ k) u s k (no-times u s k) d
    ∙ ap (λ z. pos 2 *ℤ z) (sym (pred_ℤ-*ℤ (pos zero) k))
times (negsuc (suc n)) u s k d =
    (λ i. pred_ℤ-*ℤ (negsuc n) u i +ℤ pred_ℤ-*ℤ (negsuc n) s i *ℤ pos 65536)
    ∙ less (negsuc n *ℤ u) (negsuc n *ℤ s) (negsuc n *ℤ k) u s k (times (negsuc n) u s k d) d
    ∙ ap (λ z. pos 2 *ℤ z) (sym (pred_ℤ-*ℤ (negsuc n) k))

-- twice the coefficient is u + s*2^16
module _ (k u s x : ℤ) (double : u +ℤ s *ℤ pos 65536 ≡ pos 2 *ℤ k) (fits_k : SFits w16 k) (apart : k ≢ negsuc 32767)
    (fits_x : SFits w16 x) where
  abbrev product : ℤ
  product = k *ℤ x

  parts : (a b p h q : ℤ) (r t : ℕ) → a +ℤ b *ℤ pos 65536 ≡ pos 2 *ℤ p → r < 65536 → a ≡ h *ℤ pos 65536 +ℤ pos r
      → t < 32768 → p ≡ q *ℤ pos 32768 +ℤ pos t → h +ℤ b ≡ q
  parts a b p h q r t double small is_h fine is_q = omega (arith, ints, double, small, is_h, fine, is_q)

  fraction_is : shr_z (x *ℤ u) 65536 +ℤ x *ℤ s ≡ shr_z product 32768
  fraction_is =
      let h = floored (x *ℤ u) 65536 (omega arith) in
      let q = floored product 32768 (omega arith) in
      let doubled = times x u s k double ∙ ap (λ z. pos 2 *ℤ z) (*ℤ_comm x k) in
      parts (x *ℤ u) (x *ℤ s) product (shr_z (x *ℤ u) 65536) (shr_z product 32768) h.0 q.0 doubled h.1 h.2 q.1 q.2

  pub fraction_fits : SFits w16 (shr_z product 32768)
  fraction_fits =
      let size : unsigned_abs product ≤ 32767 * 32768 =
      rw (unsigned_abs-mul k x) (mul-le-mul (abs_apart k fits_k apart) (abs_within w16 x fits_x)) in
      let range = between product 1073709055 size in
      let q = floored product 32768 (omega arith) in
      fits_16 (shr_z product 32768) (omega (arith, ints, range.0, range.1, q.1, q.2))
      (omega (arith, ints, range.0, range.1, q.1, q.2))

  -- a sum that is the fraction
  pub fraction_of : (z : ℤ) → z ≡ shr_z (x *ℤ u) 65536 +ℤ x *ℤ s → int_wrap w16 z ≡ shr_z product 32768
  fraction_of z is = ap (int_wrap w16) (is ∙ fraction_is) ∙ int_wrap_fits w16 (shr_z product 32768) fraction_fits

fits_between : (z : ℤ) → negsuc 65535 ≤ℤ z → z ≤ℤ pos 65535 → SFits w32 z
fits_between (pos n) low high = record { sfits = omega (arith, ints, high) }
fits_between (negsuc n) low high = record { sfits = omega (arith, ints, low) }

-- ---- lanes

abbrev pub less_in : Width → ℕ → ℕ → ℕ
less_in v = act2 wrap_sub (s_int v) (s_int v) (s_int v)

-- the lanes of the high words, before they are cast
abbrev pub high_lanes : List ℤ → ℤ → List ℕ
high_lanes xs u = zip2 (down_in w32) (zip2 (times_in w32) (widened w16 w32 xs)
    (cast_lanes w16 w32 (replicate 8 (of_z w16 u)))) (replicate 8 16)

abbrev highs : ℤ → List ℤ → List ℤ
highs u xs = map (λ x. shr_z (x *ℤ u) 65536) xs

abbrev fractions : ℤ → List ℤ → List ℤ
fractions k xs = map (λ x. shr_z (k *ℤ x) 32768) xs

module _ (xs : List ℤ) (u : ℤ) (long : length xs ≡ 8) (f : Each1 (SFits w16) xs) (fits_u : SFits w16 u) where
  abbrev us : List ℤ
  us = replicate 8 u

  us_fit : Each1 (SFits w16) us
  us_fit = Each1-replicate (SFits w16) 8 u fits_u

  highs_fit : Each1 (SFits w16) (highs u xs)
  highs_fit = Each1-map (SFits w16) (SFits w16) (λ x. shr_z (x *ℤ u) 65536)
      (λ x p. product_shift_fits w16 w16 w16 x u 16 p fits_u (lit< tt)) xs f

  high_lanes_are : high_lanes xs u ≡ bits_of w32 (highs u xs)
  high_lanes_are =
      let made = products_in w16 w32 (omega arith) (omega arith) xs us f us_fit in
      let products = zip2 (λ x y. x *ℤ y) xs us in
      let size : length products ≡ 8 = length-zip2 (λ x y. x *ℤ y) xs us long ∙ long in
      ap (λ l. zip2 (down_in w32) (zip2 (times_in w32) (widened w16 w32 xs) (cast_lanes w16 w32 l)) (replicate 8 16))
      (splat_bits w16 8 u)
      ∙ ap (λ l. zip2 (down_in w32) l (replicate 8 16)) made.0
      ∙ shifted w32 8 16 products size made.1
      ∙ ap (bits_of w32) (map-zip2 (λ z. shr_z z 65536) (λ x y. x *ℤ y) xs us
      ∙ zip2_splat (λ x y. shr_z (x *ℤ y) 65536) xs 8 u long)

  pub high_lanes_cast : Castable w32 w16 (high_lanes xs u)
  high_lanes_cast = subst (λ (l : List ℕ). Castable w32 w16 l) (sym high_lanes_are)
      (casts_asked w32 w16 (highs u xs) (each_widens w16 w32 (omega arith) (highs u xs) highs_fit) highs_fit)

  -- the high words, read back
  pub high_lanes_read : (map (to_z w16) (cast_lanes w32 w16 (high_lanes xs u)) ≡ highs u xs)
      × Each1 (SFits w16) (map (to_z w16) (cast_lanes w32 w16 (high_lanes xs u)))
  high_lanes_read =
      lanes_read w16 (cast_lanes w32 w16 (high_lanes xs u)) (highs u xs)
      (ap (cast_lanes w32 w16) high_lanes_are ∙ casts_are w32 w16 (highs u xs)
      (each_widens w16 w32 (omega arith) (highs u xs) highs_fit)) highs_fit

module _ (k u : ℤ) (fits_k : SFits w16 k) (apart : k ≢ negsuc 32767) where
  -- the samples added, where the factor is 2^16 less than twice the coefficient
  added_fractions : u +ℤ pos 65536 ≡ pos 2 *ℤ k → (xs : List ℤ) → Each1 (SFits w16) xs
      → zip2 (λ h x. int_wrap w16 (h +ℤ x)) (highs u xs) xs ≡ fractions k xs
  added_fractions double [] f = refl
  added_fractions double (x ∷ xs) f =
      ap₂ (λ z l. z ∷ l) (fraction_of k u (pos 1) x (omega (arith, ints, double)) fits_k apart f.0
      (shr_z (x *ℤ u) 65536 +ℤ x) (omega (arith, ints)))
      (added_fractions double xs f.1)

  -- ... taken off, where it is 2^16 more
  lessened_fractions : u +ℤ negsuc 65535 ≡ pos 2 *ℤ k → (xs : List ℤ) → Each1 (SFits w16) xs
      → zip2 (λ h x. int_wrap w16 (h -ℤ x)) (highs u xs) xs ≡ fractions k xs
  lessened_fractions double [] f = refl
  lessened_fractions double (x ∷ xs) f =
      ap₂ (λ z l. z ∷ l) (fraction_of k u (negsuc 0) x (omega (arith, ints, double)) fits_k apart f.0
      (shr_z (x *ℤ u) 65536 -ℤ x) (omega (arith, ints)))
      (lessened_fractions double xs f.1)

  -- ... and neither, where it is twice the coefficient
  pub same_fractions : u ≡ pos 2 *ℤ k → (xs : List ℤ) → Each1 (SFits w16) xs → highs u xs ≡ fractions k xs
  same_fractions double [] f = refl
  same_fractions double (x ∷ xs) f =
      ap₂ (λ z l. z ∷ l) (whole (x *ℤ u) (shr_z (x *ℤ u) 65536)
      ∙ fraction_is k u (pos 0) x (omega (arith, ints, double)) fits_k apart f.0)
      (same_fractions double xs f.1)
    where
      whole : (p h : ℤ) → h ≡ h +ℤ x *ℤ pos 0
      whole p h = omega (arith, ints)

  pub added_read : u +ℤ pos 65536 ≡ pos 2 *ℤ k → (hs xs : List ℤ) → hs ≡ highs u xs → Each1 (SFits w16) hs
      → Each1 (SFits w16) xs
      → (map (to_z w16) (zip2 (plus_in w16) (bits_of w16 hs) (bits_of w16 xs)) ≡ fractions k xs)
      × Each1 (SFits w16) (map (to_z w16) (zip2 (plus_in w16) (bits_of w16 hs) (bits_of w16 xs)))
  added_read double hs xs are f g =
      let made = lanes_read w16 (zip2 (plus_in w16) (bits_of w16 hs) (bits_of w16 xs)) (raised w16 hs xs)
      (added w16 hs xs f g) (raised_fit w16 hs xs) in
      (made.0 ∙ ap (λ l. raised w16 l xs) are ∙ added_fractions double xs g, made.1)

  pub lessened_read : u +ℤ negsuc 65535 ≡ pos 2 *ℤ k → (hs xs : List ℤ) → hs ≡ highs u xs → Each1 (SFits w16) hs
      → Each1 (SFits w16) xs
      → (map (to_z w16) (zip2 (less_in w16) (bits_of w16 hs) (bits_of w16 xs)) ≡ fractions k xs)
      × Each1 (SFits w16) (map (to_z w16) (zip2 (less_in w16) (bits_of w16 hs) (bits_of w16 xs)))
  lessened_read double hs xs are f g =
      let less = zip2 (λ h x. int_wrap w16 (h -ℤ x)) hs xs in
      let made = lanes_read w16 (zip2 (less_in w16) (bits_of w16 hs) (bits_of w16 xs)) less (subtracted w16 hs xs f g)
      (summed_fit w16 (λ h x. h -ℤ x) hs xs) in
      (made.0 ∙ ap (λ l. zip2 (λ h x. int_wrap w16 (h -ℤ x)) l xs) are ∙ lessened_fractions double xs g, made.1)

-- the multiple of 2^16 in twice the coefficient
pub word_range : (z : ℤ) → SFits w16 z → (negsuc 32767 ≤ℤ z) × (z ≤ℤ pos 32767)
word_range (pos n) f = let h : n < 32768 = f.sfits in (omega (arith, ints), omega (arith, ints, h))
word_range (negsuc n) f = let h : n < 32768 = f.sfits in (omega (arith, ints, h), omega (arith, ints))

module _ (k u s : ℤ) (double : u +ℤ s *ℤ pos 65536 ≡ pos 2 *ℤ k) (fits_u : SFits w16 u) (fits_k : SFits w16 k) where
  pub whole_above : pos 0 <ℤ s → u +ℤ pos 65536 ≡ pos 2 *ℤ k
  whole_above above = let a = word_range u fits_u in let b = word_range k fits_k in omega
      (arith, ints, above, double, a.0, a.1, b.0, b.1)

  pub whole_below : s <ℤ pos 0 → u +ℤ negsuc 65535 ≡ pos 2 *ℤ k
  whole_below below = let a = word_range u fits_u in let b = word_range k fits_k in omega
      (arith, ints, below, double, a.0, a.1, b.0, b.1)

  pub whole_none : pos 0 ≤ℤ s → s ≤ℤ pos 0 → u ≡ pos 2 *ℤ k
  whole_none low high = omega (arith, ints, low, high, double)

-- ---- sums that are saturated

sum_fits : (a b : ℤ) → SFits w16 a → SFits w16 b → SFits w32 (a +ℤ b)
sum_fits (pos a) (pos b) f g = record { sfits = omega (arith, f.sfits, g.sfits) }
sum_fits (pos a) (negsuc b) f g = fits_between (pos a +ℤ negsuc b) (omega (arith, ints, f.sfits, g.sfits))
    (omega (arith, ints, f.sfits, g.sfits))
sum_fits (negsuc a) (pos b) f g = fits_between (negsuc a +ℤ pos b) (omega (arith, ints, f.sfits, g.sfits))
    (omega (arith, ints, f.sfits, g.sfits))
sum_fits (negsuc a) (negsuc b) f g = fits_between (negsuc a +ℤ negsuc b) (omega (arith, ints, f.sfits, g.sfits))
    (omega (arith, ints, f.sfits, g.sfits))

abbrev pub sum_lanes : List ℤ → List ℤ → List ℕ
sum_lanes xs ys = narrowed w32 w16 8 (zip2 (plus_in w32) (widened w16 w32 xs) (widened w16 w32 ys))

module _ (xs ys : List ℤ) (long_x : length xs ≡ 8) (long_y : length ys ≡ 8) (f : Each1 (SFits w16) xs)
    (g : Each1 (SFits w16) ys) where
  abbrev sums : List ℤ
  sums = zip2 (λ a b. a +ℤ b) xs ys

  long_sums : length sums ≡ 8
  long_sums = length-zip2 (λ a b. a +ℤ b) xs ys (omega (arith, long_x, long_y)) ∙ long_x

  sums_fit : Each1 (SFits w32) sums
  sums_fit = each_pair (SFits w16) (SFits w32) (λ a b. a +ℤ b) sum_fits xs ys f g

  sums_are : zip2 (plus_in w32) (widened w16 w32 xs) (widened w16 w32 ys) ≡ bits_of w32 sums
  sums_are =
      (λ i. zip2 (plus_in w32) (casts_are w16 w32 xs f i) (casts_are w16 w32 ys g i))
      ∙ added w32 xs ys (each_widens w16 w32 (omega arith) xs f) (each_widens w16 w32 (omega arith) ys g)
      ∙ ap (bits_of w32) (zip2-same (SFits w16) (λ a b. int_wrap w32 (a +ℤ b)) (λ a b. a +ℤ b)
      (λ a b p q. int_wrap_fits w32 (a +ℤ b) (sum_fits a b p q)) xs ys f g)

  pub sum_lanes_cast : Castable w32 w16 (sum_lanes xs ys)
  sum_lanes_cast = subst (λ (l : List ℕ). Castable w32 w16 (narrowed w32 w16 8 l)) (sym sums_are)
      (narrow_asked w32 w16 (omega arith) 8 sums long_sums sums_fit)

  pub sum_lanes_read : (map (to_z w16) (cast_lanes w32 w16 (sum_lanes xs ys)) ≡ zip2
      (λ a b. saturate_to_bits 15 (a +ℤ b)) xs ys)
      × Each1 (SFits w16) (map (to_z w16) (cast_lanes w32 w16 (sum_lanes xs ys)))
  sum_lanes_read =
      let is =
      ap (λ l. map (to_z w16) (cast_lanes w32 w16 (narrowed w32 w16 8 l))) sums_are
      ∙ narrow_is w32 w16 (omega arith) 8 sums long_sums sums_fit
      ∙ map-zip2 (saturate_to_bits 15) (λ a b. a +ℤ b) xs ys in (
        is,
        subst (λ (zs : List ℤ). Each1 (SFits w16) zs) (sym is)
            (each_pair (SFits w16) (SFits w16) (λ a b. saturate_to_bits 15 (a +ℤ b))
            (λ a b p q. saturated_fits w16 (a +ℤ b)) xs ys f g),
      )
