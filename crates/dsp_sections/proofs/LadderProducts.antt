-- Products of coefficients and values of a lattice as fractions, in lanes.
use Rattle.std.proofs.Common.{ℕ, ◌≡◌, ◌<◌, ◌*◌, ◌^◌, List, [], ◌∷◌, length, map, replicate, refl, sym, ap, ap₂, subst}
use Rattle.std.proofs.Common.{◌∙◌, arith, w16, w32, lit<}
use Rattle.std.proofs.lemmas.Int.{ints, int_wrap_fits, int_wrap-add_left, SFits-int_wrap}
use Rattle.std.proofs.lemmas.Simd.{length-zip2}
use Rattle.std.specs.Prelude.{ℤ, pos, negsuc, ◌+ℤ◌, ◌-ℤ◌, ◌*ℤ◌, ◌≤ℤ◌}
use Rattle.std.specs.Int.{int_wrap}
use lib.Lanes.{zip2, Each1}
use lib.IntN.{+ℤ_comm}
use lib.Signed.{shr_z}
use mir.Val.{SFits}
use Rattle.dsp_sat.proofs.Words.{product_shift_fits}
use Rattle.dsp_lanes.proofs.WordLemmas.{left, wrap_bits-is}
use Rattle.dsp_lanes.proofs.LaneOps.{bits_of, cast_lanes, widened, casts_asked, casts_are, added, subtracted}
use Rattle.dsp_lanes.proofs.LaneOps.{multiplied, shifted, each_widens, each_shift_fits, each_pair, Each1-map}
use Rattle.dsp_lanes.proofs.LaneOps.{length-map, map-zip2}
use Rattle.dsp_lanes.proofs.LaneSums.{plus_in, times_in, products_in, summed_fit}
use Rattle.dsp_lanes.proofs.LaneClosings.{Castable, down_in}
use Rattle.dsp_lanes.proofs.Fractions.{less_in, floored, fits_16, word_range, fraction_fits, fraction_of}
use Rattle.dsp_lanes.proofs.HighProducts.{zip2-self}
use Rattle.dsp_sections.proofs.LadderLanes.{AreIn, IsApart}

-- ---- twice the coefficient is a factor of 16 bits and a multiple of 2^16

abbrev twice : ℤ → ℤ
twice k = int_wrap w16 (k +ℤ k)

abbrev whole : ℤ → ℤ
whole k = int_wrap w16 (shr_z k (2 ^ 15) -ℤ shr_z (twice k) (2 ^ 15))

abbrev fraction15 : ℤ → ℤ → ℤ
fraction15 k x = shr_z (k *ℤ x) (2 ^ 15)

-- what is left of a number in 16 bits differs by a multiple of 2^16
left_16 : (z : ℤ) → (j : ℕ) × (k : ℕ) × (int_wrap w16 z +ℤ pos (j * 65536) ≡ z +ℤ pos (k * 65536))
left_16 z = let l = left 16 z in (l.0, l.1, ap (λ y. y +ℤ pos (l.0 * 65536)) (sym (wrap_bits-is w16 z)) ∙ l.2)

signs : (k u p q : ℤ) (r t i j : ℕ) → u +ℤ pos (i * 65536) ≡ k +ℤ k +ℤ pos (j * 65536) → r < 32768 →
    k ≡ p *ℤ pos 32768 +ℤ pos r → t < 32768 → u ≡ q *ℤ pos 32768 +ℤ pos t
    → negsuc 32767 ≤ℤ k → k ≤ℤ pos 32767 → negsuc 32767 ≤ℤ u → u ≤ℤ pos 32767 →
    (u +ℤ (p -ℤ q) *ℤ pos 65536 ≡ pos 2 *ℤ k) × (negsuc 0 ≤ℤ (p -ℤ q)) × ((p -ℤ q) ≤ℤ pos 1)
signs k u p q r t i j is_u small is_p fine is_q least most low high = (
  omega (arith, ints, is_u, small, is_p, fine, is_q, least, most, low, high),
  omega (arith, ints, is_u, small, is_p, fine, is_q, least, most, low, high),
  omega (arith, ints, is_u, small, is_p, fine, is_q, least, most, low, high),
)

double_is : (k : ℤ) → SFits w16 k → twice k +ℤ whole k *ℤ pos 65536 ≡ pos 2 *ℤ k
double_is k fits =
    let u = left_16 (k +ℤ k) in
    let p = floored k 32768 (omega arith) in
    let q = floored (twice k) 32768 (omega arith) in
    let range = word_range k fits in
    let range' = word_range (twice k) (SFits-int_wrap w16 (k +ℤ k)) in
    let is = signs k (twice k) (shr_z k (2 ^ 15)) (shr_z (twice k) (2 ^ 15)) p.0 q.0 u.0 u.1 u.2 p.1 p.2 q.1 q.2
    range.0 range.1 range'.0 range'.1 in
    let near : SFits w16 (shr_z k (2 ^ 15) -ℤ shr_z (twice k) (2 ^ 15)) =
    fits_16 _ (omega (arith, ints, is.1)) (omega (arith, ints, is.2)) in
    ap (λ s. twice k +ℤ s *ℤ pos 65536) (int_wrap_fits w16 (shr_z k (2 ^ 15) -ℤ shr_z (twice k) (2 ^ 15)) near) ∙ is.0

lane_is : (k x : ℤ) → SFits w16 k → IsApart k → SFits w16 x →
    int_wrap w16 (shr_z (x *ℤ twice k) (2 ^ 16) +ℤ int_wrap w16 (x *ℤ whole k)) ≡ fraction15 k x
lane_is k x f apart g =
    ap (int_wrap w16) (+ℤ_comm (shr_z (x *ℤ twice k) (2 ^ 16)) (int_wrap w16 (x *ℤ whole k)))
    ∙ int_wrap-add_left w16 (x *ℤ whole k) (shr_z (x *ℤ twice k) (2 ^ 16))
    ∙ fraction_of k (twice k) (whole k) x (double_is k f) f apart g _
    (+ℤ_comm (x *ℤ whole k) (shr_z (x *ℤ twice k) (2 ^ 16)))

lanes_are : (ks xs : List ℤ) → Each1 (SFits w16) ks → Each1 IsApart ks → Each1 (SFits w16) xs
    → (zip2 (λ a b. int_wrap w16 (a +ℤ b)) (zip2 (λ x u. shr_z (x *ℤ u) (2 ^ 16)) xs (map twice ks))
    (zip2 (λ x s. int_wrap w16 (x *ℤ s)) xs (map whole ks)) ≡ zip2 fraction15 ks xs)
    × Each1 (SFits w16) (zip2 fraction15 ks xs)
lanes_are [] [] f a g = (refl, tt)
lanes_are [] (x ∷ xs) f a g = (refl, tt)
lanes_are (k ∷ ks) [] f a g = (refl, tt)
lanes_are (k ∷ ks) (x ∷ xs) f a g =
    let rest = lanes_are ks xs f.1 a.1 g.1 in (
      ap₂ (λ v l. v ∷ l) (lane_is k x f.0 a.0 g.0) rest.0,
      (fraction_fits k (twice k) (whole k) x (double_is k f.0) f.0 a.0 g.0, rest.1),
    )

abbrev twice_lanes : List ℤ → List ℕ
twice_lanes ks = zip2 (plus_in w16) (bits_of w16 ks) (bits_of w16 ks)

abbrev whole_lanes : List ℤ → List ℕ
whole_lanes ks = zip2 (less_in w16) (zip2 (down_in w16) (bits_of w16 ks) (replicate 8 15))
    (zip2 (down_in w16) (twice_lanes ks) (replicate 8 15))

abbrev high_lanes : List ℤ → List ℤ → List ℕ
high_lanes ks xs = zip2 (down_in w32) (zip2 (times_in w32) (widened w16 w32 xs) (cast_lanes w16 w32 (twice_lanes ks)))
    (replicate 8 16)

abbrev fraction_lanes : List ℤ → List ℤ → List ℕ
fraction_lanes ks xs = zip2 (plus_in w16) (cast_lanes w32 w16 (high_lanes ks xs))
    (zip2 (times_in w16) (bits_of w16 xs) (whole_lanes ks))

module _ (ks xs : List ℤ) (f : AreIn w16 8 ks) (g : AreIn w16 8 xs) where
  abbrev us : List ℤ
  us = map twice ks

  abbrev highs : List ℤ
  highs = zip2 (λ x u. shr_z (x *ℤ u) (2 ^ 16)) xs us

  us_fit : Each1 (SFits w16) us
  us_fit = Each1-map (SFits w16) (SFits w16) twice (λ k p. SFits-int_wrap w16 (k +ℤ k)) ks f.0

  long_us : length us ≡ 8
  long_us = length-map twice ks ∙ f.1

  highs_fit : Each1 (SFits w16) highs
  highs_fit = each_pair (SFits w16) (SFits w16) (λ x u. shr_z (x *ℤ u) (2 ^ 16))
      (λ x u p q. product_shift_fits w16 w16 w16 x u 16 p q (lit< tt)) xs us g.0 us_fit

  twice_are : twice_lanes ks ≡ bits_of w16 us
  twice_are = added w16 ks ks f.0 f.0 ∙ ap (bits_of w16) (zip2-self (λ a b. int_wrap w16 (a +ℤ b)) ks)

  whole_are : whole_lanes ks ≡ bits_of w16 (map whole ks)
  whole_are =
      let down : ℤ → ℤ = λ x. shr_z x (2 ^ 15) in
      (λ i. zip2 (less_in w16) (shifted w16 8 15 ks f.1 f.0 i) (zip2 (down_in w16) (twice_are i) (replicate 8 15)))
      ∙ ap (zip2 (less_in w16) (bits_of w16 (map down ks))) (shifted w16 8 15 us long_us us_fit)
      ∙ subtracted w16 (map down ks) (map down us) (each_shift_fits w16 15 ks f.0) (each_shift_fits w16 15 us us_fit)
      ∙ ap (bits_of w16) (wholes ks)
    where
      wholes : (ks : List ℤ) → zip2 (λ a b. int_wrap w16 (a -ℤ b)) (map (λ x. shr_z x (2 ^ 15)) ks)
          (map (λ x. shr_z x (2 ^ 15)) (map twice ks)) ≡ map whole ks
      wholes [] = refl
      wholes (k ∷ ks) = ap (λ l. whole k ∷ l) (wholes ks)

  high_lanes_are : high_lanes ks xs ≡ bits_of w32 highs
  high_lanes_are =
      let made = products_in w16 w32 (omega arith) (omega arith) xs us g.0 us_fit in
      let long = length-zip2 (λ x u. x *ℤ u) xs us (g.1 ∙ sym long_us) ∙ g.1 in
      ap (λ l. zip2 (down_in w32) (zip2 (times_in w32) (widened w16 w32 xs) (cast_lanes w16 w32 l)) (replicate 8 16))
      twice_are
      ∙ ap (λ l. zip2 (down_in w32) l (replicate 8 16)) made.0
      ∙ shifted w32 8 16 (zip2 (λ x u. x *ℤ u) xs us) long made.1
      ∙ ap (bits_of w32) (map-zip2 (λ p. shr_z p (2 ^ 16)) (λ x u. x *ℤ u) xs us)

  pub high_lanes_cast : Castable w32 w16 (high_lanes ks xs)
  high_lanes_cast = subst (λ (l : List ℕ). Castable w32 w16 l) (sym high_lanes_are)
      (casts_asked w32 w16 highs (each_widens w16 w32 (omega arith) highs highs_fit) highs_fit)

  pub fraction_lanes_are : Each1 IsApart ks → (fraction_lanes ks xs ≡ bits_of w16 (zip2 fraction15 ks xs)) ×
      AreIn w16 8 (zip2 fraction15 ks xs)
  fraction_lanes_are apart =
      let cast : cast_lanes w32 w16 (high_lanes ks xs) ≡ bits_of w16 highs = ap (cast_lanes w32 w16) high_lanes_are ∙
      casts_are w32 w16 highs (each_widens w16 w32 (omega arith) highs highs_fit) in
      let parts = zip2 (λ x s. int_wrap w16 (x *ℤ s)) xs (map whole ks) in
      let wholes_fit = Each1-map (SFits w16) (SFits w16) whole
      (λ k p. SFits-int_wrap w16 (shr_z k (2 ^ 15) -ℤ shr_z (twice k) (2 ^ 15))) ks f.0 in
      let made = lanes_are ks xs f.0 apart g.0 in (
        (λ i. zip2 (plus_in w16) (cast i) (zip2 (times_in w16) (bits_of w16 xs) (whole_are i)))
            ∙ ap (zip2 (plus_in w16) (bits_of w16 highs)) (multiplied w16 xs (map whole ks) g.0 wholes_fit)
            ∙ added w16 highs parts highs_fit (summed_fit w16 (λ x s. x *ℤ s) xs (map whole ks))
            ∙ ap (bits_of w16) made.0,
        (made.1, length-zip2 fraction15 ks xs (f.1 ∙ sym g.1) ∙ f.1),
      )
