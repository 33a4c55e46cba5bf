-- Products of 64 bits of the even samples of a vector, and of the odd ones.
use Rattle.std.proofs.Common.{ℕ, ◌≡◌, ◌<◌, ◌≤◌, ◌+◌, ◌-◌, ◌*◌, zero, suc, List, [], ◌∷◌, length, map, replicate}
use Rattle.std.proofs.Common.{take, drop, drop-drop, refl, sym, ap, ◌∙◌, arith, w32, w64}
use Rattle.std.proofs.lemmas.Int.{ints, int_wrap-add_left, int_wrap-add_right, to_z-of_z}
use Rattle.std.proofs.lemmas.List.{length-drop}
use Rattle.std.proofs.lemmas.Simd.{length-zip2, Each1-replicate}
use Rattle.std.specs.Prelude.{ℤ, ◌+ℤ◌, ◌*ℤ◌}
use Rattle.std.specs.Int.{int_wrap}
use lib.Lanes.{zip2, chunk, Each1}
use mir.Val.{SFits, to_z, of_z}
use Rattle.dsp_lanes.specs.Pairs.{in_turn}
use Rattle.dsp_lanes.specs.Regrouped.{list_sum}
use Rattle.dsp_defs.specs.Signal.{sample, values}
use Rattle.dsp_lanes.proofs.LaneOps.{bits_of, cast_lanes, casts_are, each_widens, ints_of_bits, splat_bits}
use Rattle.dsp_lanes.proofs.LaneSums.{plus_in, times_in, raised, raised_fit, summed_fit, lanes_read, products_raise}
use Rattle.dsp_lanes.proofs.LaneSums.{multiples_raise}
use Rattle.dsp_lanes.proofs.LaneRows.{list_sum-wraps}
use Rattle.dsp_lanes.proofs.HalfSums.{evens, odds, products, each_even, each_odd}
use Rattle.dsp_lanes.proofs.HalfSums.{length-evens, length-odds, half_fits, list_sum-halves, in_turn-zip2}
use Rattle.dsp_lanes.proofs.WordViews.{read_words, factors, evens_are, odds_are}

-- ---- one tap, by the even and the odd ones of eight samples
abbrev word_sums : List ℤ → List ℤ → List ℤ → List ℤ
word_sums sums ts xs = map (to_z w64) (zip2 (plus_in w64) (bits_of w64 sums)
    (zip2 (times_in w64) (bits_of w64 ts) (bits_of w64 xs)))

abbrev tapped : ℤ → List ℤ → List ℤ → List ℤ
tapped t sums xs = zip2 (λ s x. int_wrap w64 (s +ℤ (t *ℤ x))) sums xs

splat_words : (t : ℤ) → SFits w32 t → bits_of w64 (replicate 4 t) ≡ cast_lanes w32 w64 (replicate 4 (of_z w32 t))
splat_words t f = sym (ap (cast_lanes w32 w64) (splat_bits w32 4 t) ∙ casts_are w32 w64 (replicate 4 t)
    (Each1-replicate (SFits w32) 4 t f))

word_sums_are : (sums half : List ℤ) (t : ℤ) → length half ≡ 4 → Each1 (SFits w64) sums → SFits w32 t →
    Each1 (SFits w32) half → word_sums sums (replicate 4 t) half ≡ tapped t sums half
word_sums_are sums half t long h f g =
    (lanes_read w64 _ (tapped t sums half)
    ((λ i. zip2 (plus_in w64) (bits_of w64 sums) (zip2 (times_in w64) (splat_words t f i)
    (sym (casts_are w32 w64 half g) i)))
    ∙ multiples_raise w32 w64 (omega arith) (omega arith) 4 sums t half long h f g)
    (summed_fit w64 (λ s x. s +ℤ (t *ℤ x)) sums half)).0

pub factor_words_are : (sums half fs : List ℤ) (t : ℤ) → length half ≡ 4 → Each1 (SFits w64) sums → SFits w32 t →
    Each1 (SFits w32) half → fs ≡ values 4 (λ i. sample (map (to_z w32) (replicate 8 (of_z w32 t))) (2 * i)) →
    word_sums sums fs half ≡ tapped t sums half
factor_words_are sums half fs t long h f g is =
    (λ i. word_sums sums (factors fs t f is i) half) ∙ word_sums_are sums half t long h f g

-- words in lanes of 64 bits that are passed on
passed : (es : List ℤ) → Each1 (SFits w32) es → map (to_z w64) (bits_of w64 es) ≡ es
passed es f = ints_of_bits w64 es (each_widens w32 w64 (omega arith) es f)

-- both halves, in turn
pub tapped_in_turn : (even odd xs es os new_even new_odd : List ℤ) (t : ℤ) → length even ≡ 4 → length odd ≡ 4 →
    length xs ≡ 8 → SFits w32 t → Each1 (SFits w32) es → Each1 (SFits w32) os → es ≡ evens xs → os ≡ odds xs →
    new_even ≡ tapped (to_z w32 (of_z w32 t)) even (map (to_z w64) (bits_of w64 es)) →
    new_odd ≡ tapped (to_z w32 (of_z w32 t)) odd (map (to_z w64) (bits_of w64 os)) →
    in_turn new_even new_odd ≡ tapped t (in_turn even odd) xs
tapped_in_turn even odd xs es os new_even new_odd t long_even long_odd long f g h es_are os_are even_is odd_is =
    (λ i. in_turn (even_is i) (odd_is i))
    ∙ (λ i. in_turn (tapped (to_z-of_z w32 t f i) even ((passed es g ∙ es_are) i))
    (tapped (to_z-of_z w32 t f i) odd ((passed os h ∙ os_are) i)))
    ∙ in_turn-zip2 (λ s x. int_wrap w64 (s +ℤ (t *ℤ x))) even odd xs (omega arith)

-- ---- the odd ones are the even ones from the next place on
abbrev doubled : ℕ → ℕ
doubled zero = zero
doubled (suc n) = suc (suc (doubled n))

evens_behind : (n : ℕ) (ys : List ℤ) → doubled n < length ys → evens (take (doubled n) (drop 1 ys)) ≡ odds
    (take (doubled n) ys)
evens_behind zero ys h = refl
evens_behind (suc n) [] h = absurd (omega (arith, h))
evens_behind (suc n) (x ∷ []) h = absurd (omega (arith, h))
evens_behind (suc n) (x ∷ y ∷ []) h = absurd (omega (arith, h))
evens_behind (suc n) (x ∷ y ∷ z ∷ ys) h = ap (λ l. y ∷ l) (evens_behind n (z ∷ ys) (omega (arith, h)))

pub next_evens : (at : ℕ) (xs : List ℤ) → at + 9 ≤ length xs → evens (chunk (at + 1) 8 xs) ≡ odds (chunk at 8 xs)
next_evens at xs room =
    let long : length (drop at xs) ≡ length xs - at = length-drop at xs in
    ap (λ l. evens (take 8 l)) (sym (drop-drop 1 at xs)) ∙ evens_behind 4 (drop at xs) (omega (arith, long, room))

-- ---- products
products-evens : (xs ys : List ℤ) → length xs ≡ length ys → products (evens xs) (evens ys) ≡ evens (products xs ys)
products-evens [] ys e = refl
products-evens (x ∷ []) [] e = refl
products-evens (x ∷ []) (y ∷ []) e = refl
products-evens (x ∷ []) (y ∷ z ∷ ys) e = absurd (omega (arith, e))
products-evens (x ∷ w ∷ xs) [] e = refl
products-evens (x ∷ w ∷ xs) (y ∷ []) e = refl
products-evens (x ∷ w ∷ xs) (y ∷ z ∷ ys) e = ap (λ l. (x *ℤ y) ∷ l) (products-evens xs ys (omega arith))

products-odds : (xs ys : List ℤ) → length xs ≡ length ys → products (odds xs) (odds ys) ≡ odds (products xs ys)
products-odds [] ys e = refl
products-odds (x ∷ []) [] e = refl
products-odds (x ∷ []) (y ∷ []) e = refl
products-odds (x ∷ []) (y ∷ z ∷ ys) e = absurd (omega (arith, e))
products-odds (x ∷ w ∷ xs) [] e = refl
products-odds (x ∷ w ∷ xs) (y ∷ []) e = refl
products-odds (x ∷ w ∷ xs) (y ∷ z ∷ ys) e = ap (λ l. (w *ℤ z) ∷ l) (products-odds xs ys (omega arith))

-- both halves of the sums, raised by both halves of the products
halves_raised : (even odd p q : List ℤ) → length even ≡ length p → length odd ≡ length q →
    int_wrap w64 (list_sum (raised w64 even p) +ℤ list_sum (raised w64 odd q)) ≡ int_wrap w64
    ((list_sum even +ℤ list_sum odd) +ℤ (list_sum p +ℤ list_sum q))
halves_raised even odd p q long_p long_q =
    let e = list_sum (raised w64 even p) in
    let o = list_sum (raised w64 odd q) in
    sym (int_wrap-add_left w64 e o)
    ∙ ap (λ z. int_wrap w64 (z +ℤ o)) (list_sum-wraps w64 even p long_p)
    ∙ int_wrap-add_left w64 (list_sum even +ℤ list_sum p) o
    ∙ sym (int_wrap-add_right w64 (list_sum even +ℤ list_sum p) o)
    ∙ ap (λ z. int_wrap w64 ((list_sum even +ℤ list_sum p) +ℤ z)) (list_sum-wraps w64 odd q long_q)
    ∙ int_wrap-add_right w64 (list_sum even +ℤ list_sum p) (list_sum odd +ℤ list_sum q)
    ∙ ap (int_wrap w64) (swapped (list_sum even) (list_sum p) (list_sum odd) (list_sum q))
  where
    swapped : (a b c d : ℤ) → (a +ℤ b) +ℤ (c +ℤ d) ≡ (a +ℤ c) +ℤ (b +ℤ d)
    swapped a b c d = omega (arith, ints)

-- ---- the products of eight samples, by the even and the odd ones
word_products_are : (sums t x : List ℤ) → Each1 (SFits w64) sums → Each1 (SFits w32) t → Each1 (SFits w32) x →
    word_sums sums t x ≡ raised w64 sums (products t x)
word_products_are sums t x h f g =
    (lanes_read w64 _ (raised w64 sums (products t x))
    ((λ i. zip2 (plus_in w64) (bits_of w64 sums) (zip2 (times_in w64) (sym (casts_are w32 w64 t f) i)
    (sym (casts_are w32 w64 x g) i)))
    ∙ products_raise w32 w64 (omega arith) (omega arith) sums t x h f g)
    (raised_fit w64 sums (products t x))).0

module _ (even odd ts xs te to xe xo : List ℤ) (long_even : length even ≡ 4) (long_odd : length odd ≡ 4)
    (long_t : length ts ≡ 8) (long_x : length xs ≡ 8) (fit_even : Each1 (SFits w64) even)
    (fit_odd : Each1 (SFits w64) odd) (f : Each1 (SFits w32) ts) (g : Each1 (SFits w32) xs)
    (te_is : te ≡ values 4 (λ i. sample (read_words ts) (2 * i)))
    (to_is : to ≡ values 4 (λ i. sample (read_words ts) (2 * i + 1)))
    (xe_is : xe ≡ values 4 (λ i. sample (read_words xs) (2 * i)))
    (xo_is : xo ≡ values 4 (λ i. sample (read_words xs) (2 * i + 1))) where
  abbrev ps : List ℤ
  ps = products ts xs

  long : length ps ≡ 8
  long = length-zip2 (λ x y. x *ℤ y) ts xs (omega arith) ∙ long_t

  even_raised : word_sums even te xe ≡ raised w64 even (evens ps)
  even_raised =
      (λ i. word_sums even (evens_are ts te long_t f te_is i) (evens_are xs xe long_x g xe_is i))
      ∙ word_products_are even (evens ts) (evens xs) fit_even (each_even (SFits w32) ts f) (each_even (SFits w32) xs g)
      ∙ ap (raised w64 even) (products-evens ts xs (omega arith))

  odd_raised : word_sums odd to xo ≡ raised w64 odd (odds ps)
  odd_raised =
      (λ i. word_sums odd (odds_are ts to long_t f to_is i) (odds_are xs xo long_x g xo_is i))
      ∙ word_products_are odd (odds ts) (odds xs) fit_odd (each_odd (SFits w32) ts f) (each_odd (SFits w32) xs g)
      ∙ ap (raised w64 odd) (products-odds ts xs (omega arith))

  pub product_words_are : int_wrap w64 (list_sum (word_sums even te xe) +ℤ list_sum (word_sums odd to xo)) ≡ int_wrap
      w64 ((list_sum even +ℤ list_sum odd) +ℤ list_sum (products ts xs))
  product_words_are =
      (λ i. int_wrap w64 (list_sum (even_raised i) +ℤ list_sum (odd_raised i)))
      ∙ halves_raised even odd (evens ps) (odds ps) (long_even ∙ sym (length-evens 4 ps long))
      (long_odd ∙ sym (length-odds 4 ps long))
      ∙ ap (λ z. int_wrap w64 ((list_sum even +ℤ list_sum odd) +ℤ z)) (list_sum-halves 4 ps long)

  pub product_words_fit : Each1 (SFits w64) (word_sums even te xe) × Each1 (SFits w64) (word_sums odd to xo)
      × (length (word_sums even te xe) ≡ 4) × (length (word_sums odd to xo) ≡ 4)
  product_words_fit =
      let e = half_fits w64 4 (λ s p. s +ℤ p) _ even (evens ps) even_raised long_even (length-evens 4 ps long) in
      let o = half_fits w64 4 (λ s p. s +ℤ p) _ odd (odds ps) odd_raised long_odd (length-odds 4 ps long) in
      (e.0, o.0, e.1, o.1)
