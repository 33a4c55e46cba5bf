-- Products of two words of 16 bits, added in pairs, each pair less 1.
use Rattle.std.proofs.Common.{ℕ, zero, suc, ◌≡◌, ◌<◌, ◌≤◌, ◌*◌, ◌^◌, ◌-◌, List, [], ◌∷◌, length, map, replicate, refl}
use Rattle.std.proofs.Common.{sym, ap, ◌∙◌, arith, w16, w32, w64}
use Rattle.std.proofs.lemmas.Int.{ints, int_wrap_fits, int_wrap-add_left, int_wrap-add_right}
use Rattle.std.proofs.lemmas.Simd.{length-zip2, Each1-replicate}
use Rattle.std.proofs.Math.Nat.{mul-le-mul}
use Rattle.std.specs.Prelude.{ℤ, pos, negsuc, neg_ℤ, ◌+ℤ◌, ◌*ℤ◌}
use Rattle.std.specs.Int.{int_wrap}
use lib.Lanes.{zip2, Each1}
use mir.Val.{SFits, to_z, of_z}
use Rattle.dsp_lanes.specs.Regrouped.{list_sum}
use Rattle.dsp_lanes.proofs.LaneOps.{splat_bits, bits_of, cast_lanes, casts_are, widened, added, each_pair, each_widens}
use Rattle.dsp_lanes.proofs.LaneSums.{plus_in, times_in, raised, raised_fit, lanes_read, products_in}
use Rattle.dsp_lanes.proofs.LaneRows.{list_sum-wraps}
use Rattle.dsp_lanes.proofs.HalfSums.{picked, evens, odds, products, evens_of_eight, odds_of_eight, each_even}
use Rattle.dsp_lanes.proofs.HalfSums.{each_odd, length-evens, length-odds, half_fits, list_sum-halves}

-- from -2^30 + 1 to 2^30
abbrev pub IsSmall : ℤ → Type 0
IsSmall (pos a) = a ≤ 2 ^ 30
IsSmall (negsuc a) = suc a < 2 ^ 30

negated_small : (n : ℕ) → n < 2 ^ 30 → IsSmall (neg_ℤ (pos n))
negated_small zero below = omega arith
negated_small (suc n) below = below

pub product_small : (x y : ℤ) → SFits w16 x → SFits w16 y → IsSmall (x *ℤ y)
product_small (pos a) (pos b) f g =
    let h = f.sfits in
    let k = g.sfits in
    let le : a ≤ 2 ^ 15 = omega (arith, h) in
    let more : b ≤ 2 ^ 15 = omega (arith, k) in
    mul-le-mul le more
product_small (pos a) (negsuc b) f g =
    let h = f.sfits in
    let k = g.sfits in
    let le : a ≤ 2 ^ 15 - 1 = omega (arith, h) in
    let more : suc b ≤ 2 ^ 15 = omega (arith, k) in
    let all : a * suc b ≤ (2 ^ 15 - 1) * 2 ^ 15 = mul-le-mul le more in
    negated_small (a * suc b) (omega (arith, all))
product_small (negsuc a) (pos b) f g =
    let h = f.sfits in
    let k = g.sfits in
    let le : suc a ≤ 2 ^ 15 = omega (arith, h) in
    let more : b ≤ 2 ^ 15 - 1 = omega (arith, k) in
    let all : suc a * b ≤ 2 ^ 15 * (2 ^ 15 - 1) = mul-le-mul le more in
    negated_small (suc a * b) (omega (arith, all))
product_small (negsuc a) (negsuc b) f g =
    let h = f.sfits in
    let k = g.sfits in
    let le : suc a ≤ 2 ^ 15 = omega (arith, h) in
    let more : suc b ≤ 2 ^ 15 = omega (arith, k) in
    mul-le-mul le more

-- two products, less 1
abbrev pub less : ℤ → ℤ → ℤ
less p q = (p +ℤ q) +ℤ negsuc 0

pub less_fits : (p q : ℤ) → IsSmall p → IsSmall q → SFits w32 (less p q)
less_fits (pos a) (pos b) f g = omega (arith, ints, f, g)
less_fits (pos a) (negsuc b) f g = omega (arith, ints, f, g)
less_fits (negsuc a) (pos b) f g = omega (arith, ints, f, g)
less_fits (negsuc a) (negsuc b) f g = omega (arith, ints, f, g)

less_each : (n : ℕ) (ps qs : List ℤ) → length ps ≡ n → length qs ≡ n → Each1 IsSmall ps → Each1 IsSmall qs
    → (raised w32 (raised w32 ps qs) (replicate n (negsuc 0)) ≡ zip2 less ps qs) ×
    Each1 (SFits w32) (zip2 less ps qs) × (list_sum (zip2 less ps qs) +ℤ pos n ≡ list_sum ps +ℤ list_sum qs)
less_each zero [] [] e f g h = (refl, tt, refl)
less_each zero [] (q ∷ qs) e f g h = absurd (omega (arith, f))
less_each zero (p ∷ ps) qs e f g h = absurd (omega (arith, e))
less_each (suc n) [] qs e f g h = absurd (omega (arith, e))
less_each (suc n) (p ∷ ps) [] e f g h = absurd (omega (arith, f))
less_each (suc n) (p ∷ ps) (q ∷ qs) e f g h =
    let rest = less_each n ps qs (omega arith) (omega arith) g.1 h.1 in
    let fits = less_fits p q g.0 h.0 in (
      ap (λ z. z ∷ raised w32 (raised w32 ps qs) (replicate n (negsuc 0)))
          (int_wrap-add_left w32 (p +ℤ q) (negsuc 0) ∙ int_wrap_fits w32 (less p q) fits) ∙
          ap (λ l. less p q ∷ l) rest.0,
      (fits, rest.1),
      one_more p q (list_sum (zip2 less ps qs)) (list_sum ps) (list_sum qs) n rest.2,
    )
  where
    one_more : (p q l s t : ℤ) (n : ℕ) → l +ℤ pos n ≡ s +ℤ t → (less p q +ℤ l) +ℤ pos (suc n) ≡ (p +ℤ s) +ℤ (q +ℤ t)
    one_more p q l s t n e = omega (arith, ints, e)

-- ---- eight products
abbrev eight_lanes : List ℤ → List ℤ → List ℕ
eight_lanes ts xs = zip2 (times_in w32) (widened w16 w32 ts) (widened w16 w32 xs)

abbrev paired_less : List ℕ → List ℕ
paired_less lanes = zip2 (plus_in w32) (zip2 (plus_in w32) (picked lanes (0 ∷ 2 ∷ 4 ∷ 6 ∷ []))
    (picked lanes (1 ∷ 3 ∷ 5 ∷ 7 ∷ []))) (replicate 4 (of_z w32 (negsuc 0)))

abbrev pub less_lanes : List ℤ → List ℤ → List ℤ → List ℕ
less_lanes sums ts xs = zip2 (plus_in w64) (bits_of w64 sums) (cast_lanes w32 w64 (paired_less (eight_lanes ts xs)))

abbrev pairs_less : List ℤ → List ℤ → List ℤ
pairs_less ts xs = zip2 less (evens (products ts xs)) (odds (products ts xs))

module _ (ts xs : List ℤ) (long_t : length ts ≡ 8) (long_x : length xs ≡ 8) (f : Each1 (SFits w16) ts)
    (g : Each1 (SFits w16) xs) where
  long_products : length (products ts xs) ≡ 8
  long_products = length-zip2 (λ t x. t *ℤ x) ts xs (long_t ∙ sym long_x) ∙ long_t

  each_less : (raised w32 (raised w32 (evens (products ts xs)) (odds (products ts xs))) (replicate 4 (negsuc 0)) ≡
      pairs_less ts xs) × Each1 (SFits w32) (pairs_less ts xs)
      × (list_sum (pairs_less ts xs) +ℤ pos 4 ≡ list_sum (evens (products ts xs)) +ℤ list_sum (odds (products ts xs)))
  each_less =
      let ps = products ts xs in
      let small = each_pair (SFits w16) IsSmall (λ t x. t *ℤ x) product_small ts xs f g in
      less_each 4 (evens ps) (odds ps) (length-evens 4 ps long_products) (length-odds 4 ps long_products)
      (each_even IsSmall ps small) (each_odd IsSmall ps small)

  paired_is : paired_less (eight_lanes ts xs) ≡ bits_of w32 (pairs_less ts xs)
  paired_is =
      let ps = products ts xs in
      let made = products_in w16 w32 (omega arith) (omega arith) ts xs f g in
      ap paired_less made.0
      ∙ (λ i. zip2 (plus_in w32) (zip2 (plus_in w32) (evens_of_eight w32 ps long_products i)
      (odds_of_eight w32 ps long_products i)) (splat_bits w32 4 (negsuc 0) i))
      ∙ ap (λ l. zip2 (plus_in w32) l (bits_of w32 (replicate 4 (negsuc 0))))
      (added w32 (evens ps) (odds ps) (each_even (SFits w32) ps made.1) (each_odd (SFits w32) ps made.1))
      ∙ added w32 (raised w32 (evens ps) (odds ps)) (replicate 4 (negsuc 0)) (raised_fit w32 (evens ps) (odds ps))
      (Each1-replicate (SFits w32) 4 (negsuc 0) (omega (arith, ints)))
      ∙ ap (bits_of w32) each_less.0

  less_is : (sums : List ℤ) → Each1 (SFits w64) sums →
      map (to_z w64) (less_lanes sums ts xs) ≡ raised w64 sums (pairs_less ts xs)
  less_is sums h =
      let qs = pairs_less ts xs in
      (lanes_read w64 (less_lanes sums ts xs) (raised w64 sums qs)
      (ap (λ l. zip2 (plus_in w64) (bits_of w64 sums) (cast_lanes w32 w64 l)) paired_is
      ∙ ap (zip2 (plus_in w64) (bits_of w64 sums)) (casts_are w32 w64 qs each_less.1)
      ∙ added w64 sums qs h (each_widens w32 w64 (omega arith) qs each_less.1))
      (raised_fit w64 sums qs)).0

  long_less : length (pairs_less ts xs) ≡ 4
  long_less =
      let ps = products ts xs in
      let e = length-evens 4 ps long_products in
      let o = length-odds 4 ps long_products in
      length-zip2 less (evens ps) (odds ps) (e ∙ sym o) ∙ e

  pub less_lanes_fit : (sums : List ℤ) → Each1 (SFits w64) sums → length sums ≡ 4 →
      Each1 (SFits w64) (map (to_z w64) (less_lanes sums ts xs)) × (length (map (to_z w64) (less_lanes sums ts xs)) ≡ 4)
  less_lanes_fit sums h long = half_fits w64 4 (λ s p. s +ℤ p) _ sums (pairs_less ts xs) (less_is sums h) long long_less

  -- what is taken away is counted
  pub less_sum : (sums : List ℤ) (count : ℤ) → Each1 (SFits w64) sums → length sums ≡ 4
      → int_wrap w64 (list_sum (map (to_z w64) (less_lanes sums ts xs)) +ℤ int_wrap w64 (count +ℤ pos 4)) ≡ int_wrap
      w64 ((list_sum sums +ℤ count) +ℤ list_sum (products ts xs))
  less_sum sums count h long =
      let ps = products ts xs in
      let qs = pairs_less ts xs in
      let more = count +ℤ pos 4 in
      ap (λ l. int_wrap w64 (list_sum l +ℤ int_wrap w64 more)) (less_is sums h)
      ∙ int_wrap-add_right w64 (list_sum (raised w64 sums qs)) more
      ∙ sym (int_wrap-add_left w64 (list_sum (raised w64 sums qs)) more)
      ∙ ap (λ z. int_wrap w64 (z +ℤ more)) (list_sum-wraps w64 sums qs (long ∙ sym long_less))
      ∙ int_wrap-add_left w64 (list_sum sums +ℤ list_sum qs) more
      ∙ ap (int_wrap w64) (put_back (list_sum sums) (list_sum qs) count (list_sum (evens ps)) (list_sum (odds ps))
      each_less.2)
      ∙ ap (λ z. int_wrap w64 ((list_sum sums +ℤ count) +ℤ z)) (list_sum-halves 4 ps long_products)
    where
      put_back : (s l c e o : ℤ) → l +ℤ pos 4 ≡ e +ℤ o → (s +ℤ l) +ℤ (c +ℤ pos 4) ≡ (s +ℤ c) +ℤ (e +ℤ o)
      put_back s l c e o h = omega (arith, ints, h)
