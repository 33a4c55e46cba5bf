-- Products of 16 bits added in pairs, in sums of 32 bits.
use Rattle.std.proofs.Common.{ℕ, ◌≡◌, List, [], ◌∷◌, length, map, sym, ap, ◌∙◌, arith, w16, w32}
use Rattle.std.proofs.lemmas.Int.{int_wrap-add_right}
use Rattle.std.proofs.lemmas.Simd.{length-zip2}
use Rattle.std.specs.Prelude.{ℤ, ◌+ℤ◌, ◌*ℤ◌}
use Rattle.std.specs.Int.{int_wrap}
use lib.Lanes.{zip2, Each1}
use mir.Val.{SFits, to_z}
use Rattle.dsp_lanes.specs.Regrouped.{list_sum}
use Rattle.dsp_lanes.proofs.LaneOps.{bits_of, widened, added}
use Rattle.dsp_lanes.proofs.LaneSums.{plus_in, times_in, raised, raised_fit, lanes_read, products_in}
use Rattle.dsp_lanes.proofs.LaneRows.{list_sum-wraps}
use Rattle.dsp_lanes.proofs.HalfSums.{picked, evens, odds, products, evens_of_eight, odds_of_eight, each_even}
use Rattle.dsp_lanes.proofs.HalfSums.{each_odd, length-evens, length-odds, list_sum-halves, half_fits}

abbrev product_lanes : List ℤ → List ℤ → List ℕ
product_lanes ts xs = zip2 (times_in w32) (widened w16 w32 ts) (widened w16 w32 xs)

abbrev narrow_lanes : List ℤ → List ℤ → List ℤ → List ℕ
narrow_lanes sums ts xs = zip2 (plus_in w32) (bits_of w32 sums)
    (zip2 (plus_in w32) (picked (product_lanes ts xs) (0 ∷ 2 ∷ 4 ∷ 6 ∷ []))
    (picked (product_lanes ts xs) (1 ∷ 3 ∷ 5 ∷ 7 ∷ [])))

module _ (sums ts xs : List ℤ) (long_t : length ts ≡ 8) (long_x : length xs ≡ 8) (f : Each1 (SFits w16) ts)
    (g : Each1 (SFits w16) xs) (h : Each1 (SFits w32) sums) (long_s : length sums ≡ 4) where
  ps : List ℤ
  ps = products ts xs

  long_p : length ps ≡ 8
  unfolding ps
  long_p = length-zip2 (λ t x. t *ℤ x) ts xs (long_t ∙ sym long_x) ∙ long_t

  pairs : List ℤ
  pairs = raised w32 (evens ps) (odds ps)

  long_pairs : length pairs ≡ 4
  unfolding pairs
  long_pairs = length-zip2 _ (evens ps) (odds ps) (length-evens 4 ps long_p ∙ sym (length-odds 4 ps long_p)) ∙
      length-evens 4 ps long_p

  narrow_is : map (to_z w32) (narrow_lanes sums ts xs) ≡ raised w32 sums pairs
  unfolding ps pairs
  narrow_is =
      let made = products_in w16 w32 (omega arith) (omega arith) ts xs f g in
      (lanes_read w32 (narrow_lanes sums ts xs) (raised w32 sums pairs)
      ((λ i. zip2 (plus_in w32) (bits_of w32 sums) (zip2 (plus_in w32) (picked (made.0 i) (0 ∷ 2 ∷ 4 ∷ 6 ∷ []))
      (picked (made.0 i) (1 ∷ 3 ∷ 5 ∷ 7 ∷ []))))
      ∙ (λ i. zip2 (plus_in w32) (bits_of w32 sums) (zip2 (plus_in w32) (evens_of_eight w32 ps long_p i)
      (odds_of_eight w32 ps long_p i)))
      ∙ ap (zip2 (plus_in w32) (bits_of w32 sums)) (added w32 (evens ps) (odds ps) (each_even (SFits w32) ps made.1)
      (each_odd (SFits w32) ps made.1))
      ∙ added w32 sums pairs h (raised_fit w32 (evens ps) (odds ps)))
      (raised_fit w32 sums pairs)).0

  pub narrow_sum : int_wrap w32 (list_sum (map (to_z w32) (narrow_lanes sums ts xs))) ≡ int_wrap w32
      (list_sum sums +ℤ list_sum (products ts xs))
  unfolding ps pairs
  narrow_sum =
      ap (λ l. int_wrap w32 (list_sum l)) narrow_is
      ∙ list_sum-wraps w32 sums pairs (long_s ∙ sym long_pairs)
      ∙ sym (int_wrap-add_right w32 (list_sum sums) (list_sum pairs))
      ∙ ap (λ z. int_wrap w32 (list_sum sums +ℤ z)) (list_sum-wraps w32 (evens ps) (odds ps)
      (length-evens 4 ps long_p ∙ sym (length-odds 4 ps long_p)) ∙ ap (int_wrap w32) (list_sum-halves 4 ps long_p))
      ∙ int_wrap-add_right w32 (list_sum sums) (list_sum ps)

  pub narrow_fit : Each1 (SFits w32) (map (to_z w32) (narrow_lanes sums ts xs)) ×
      (length (map (to_z w32) (narrow_lanes sums ts xs)) ≡ 4)
  narrow_fit = half_fits w32 4 (λ s p. s +ℤ p) _ sums pairs narrow_is long_s long_pairs
