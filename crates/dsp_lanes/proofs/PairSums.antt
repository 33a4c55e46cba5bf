-- Pairs of taps, in sums that lie two apart.
use Rattle.std.proofs.Common.{ℕ, ◌≡◌, ◌≤◌, ◌+◌, ◌*◌, suc, zero, List, [], ◌∷◌, length, map, replicate, ℤ, pos, negsuc}
use Rattle.std.proofs.Common.{◌+ℤ◌, ◌*ℤ◌, refl, sym, ap, ◌∙◌, arith, w16, w32, w64, ◌<◌, ◌⊎◌, ⊎_elim, subst}
use Rattle.std.proofs.lemmas.Int.{ints, SFits-int_wrap, int_wrap_fits, int_wrap-add_left, int_wrap-add_right}
use Rattle.std.proofs.lemmas.Int.{unsigned_abs-mul, fits_signed_from_abs}
use Rattle.std.proofs.lemmas.Bool.{cases_lt}
use Rattle.std.proofs.lemmas.List.{get_or_past, map-id}
use Rattle.std.proofs.lemmas.List.Sums.{sum_by-cons}
use Rattle.std.proofs.lemmas.Simd.{length-zip2, Each1-replicate, length-replicate, length-chunk}
use Rattle.std.proofs.Math.IntN.{*ℤ_comm, +ℤ_assoc}
use Rattle.std.proofs.Math.Nat.{mul-le-mul}
use Rattle.std.specs.List.{All, range_with_len}
use Rattle.std.specs.Prelude.{sum, unsigned_abs}
use Rattle.std.specs.Int.{int_wrap}
use lib.Lanes.{zip2, chunk, Each1}
use mir.Syntax.{Width}
use mir.Val.{SFits, to_z, of_z, hbits}
use Rattle.dsp_defs.specs.Signal.{sample, sum_below, values}
use Rattle.dsp_defs.proofs.Signal.{sum_below-front, sum_below_cong}
use Rattle.dsp_sat.proofs.Words.{product_fits}
use Rattle.dsp_lanes.specs.Pairs.{four, pair_sum, repeated, in_turn}
use Rattle.dsp_lanes.specs.Rows.{row}
use Rattle.dsp_lanes.proofs.LaneOps.{splat_bits, bits_of, widened, casts_are, casts_asked, ints_of_bits, group_fits}
use Rattle.dsp_lanes.proofs.LaneOps.{added, multiplied, each_widens, each_pair, zip2-same}
use Rattle.dsp_lanes.proofs.LaneSums.{plus_in, times_in, raised, raised_fit, summed_fit, lanes_read}
use Rattle.dsp_lanes.proofs.LaneClosings.{Castable}
use Rattle.dsp_lanes.proofs.LaneRows.{chunk-values}
use Rattle.dsp_lanes.proofs.HalfSums.{picked, evens, odds, products, evens_of_eight, odds_of_eight, each_even}
use Rattle.dsp_lanes.proofs.HalfSums.{each_odd, length-evens, length-odds, half_fits, in_turn-zip2}

-- the products of two groups of words of 16 bits, two by two
abbrev product_lanes : List ℤ → List ℤ → List ℕ
product_lanes xs ts = zip2 (times_in w32) (bits_of w32 xs) (bits_of w32 ts)

narrow_products : (xs ts : List ℤ) → Each1 (SFits w16) xs → Each1 (SFits w16) ts
    → (product_lanes xs ts ≡ bits_of w32 (products xs ts)) × Each1 (SFits w32) (products xs ts)
narrow_products xs ts f g = (
  multiplied w32 xs ts (each_widens w16 w32 (omega arith) xs f) (each_widens w16 w32 (omega arith) ts g)
      ∙ ap (bits_of w32) (zip2-same (SFits w16) (λ x t. int_wrap w32 (x *ℤ t)) (λ x t. x *ℤ t)
      (λ x t p q. int_wrap_fits w32 (x *ℤ t) (product_fits w32 w16 w16 x t p q (omega arith))) xs ts f g),
  each_pair (SFits w16) (SFits w32) (λ x t. x *ℤ t) (λ x t p q. product_fits w32 w16 w16 x t p q (omega arith)) xs ts
      f g,
)

abbrev paired : List ℕ → List ℕ
paired ps = zip2 (plus_in w32) (picked ps (0 ∷ 2 ∷ 4 ∷ 6 ∷ [])) (picked ps (1 ∷ 3 ∷ 5 ∷ 7 ∷ []))

-- two products each
pairs_added : (xs ts : List ℤ) → length xs ≡ 8 → length ts ≡ 8 → Each1 (SFits w16) xs → Each1 (SFits w16) ts
    → paired (product_lanes xs ts) ≡ bits_of w32 (raised w32 (evens (products xs ts)) (odds (products xs ts)))
pairs_added xs ts long_x long_t f g =
    let ps = products xs ts in
    let made = narrow_products xs ts f g in
    let long : length ps ≡ 8 = length-zip2 (λ x t. x *ℤ t) xs ts (omega arith) ∙ long_x in
    ap paired made.0
    ∙ (λ i. zip2 (plus_in w32) (evens_of_eight w32 ps long i) (odds_of_eight w32 ps long i))
    ∙ added w32 (evens ps) (odds ps) (each_even (SFits w32) ps made.1) (each_odd (SFits w32) ps made.1)

-- eight samples, one by one
eight_samples : (at : ℕ) (window : List ℤ) → at + 8 ≤ length window →
    chunk at 8 window ≡ sample window at ∷ sample window (at + 1) ∷ sample window (at + 2) ∷ sample window (at + 3) ∷
    sample window (at + 4) ∷ sample window (at + 5) ∷ sample window (at + 6) ∷ sample window (at + 7) ∷ []
eight_samples at window room =
    let e0 : at + 0 ≡ at = omega arith in
    chunk-values at 8 window room ∙ ap (λ k. sample window k ∷ sample window (at + 1) ∷ sample window (at + 2) ∷
    sample window (at + 3) ∷ sample window (at + 4) ∷ sample window (at + 5) ∷ sample window (at + 6) ∷ sample
    window (at + 7) ∷ []) e0

pub pairs_are : (taps window xs ts : List ℤ) (j at : ℕ) → at + 8 ≤ length window → xs ≡ chunk at 8 window →
    ts ≡ repeated (sample taps j) (sample taps (j + 1)) → Each1 (SFits w16) xs → Each1 (SFits w16) ts
    → map (to_z w32) (paired (product_lanes xs ts)) ≡ four (pair_sum taps window j) at
pairs_are taps window xs ts j at room is_x is_t f g =
    let x = eight_samples at window room in
    let long_x : length xs ≡ 8 = ap length (is_x ∙ x) in
    let long_t : length ts ≡ 8 = ap length is_t in
    let two : at + 2 + 1 ≡ at + 3 = omega arith in
    let four : at + 4 + 1 ≡ at + 5 = omega arith in
    let six : at + 6 + 1 ≡ at + 7 = omega arith in
    let t = sample taps j in
    let u = sample taps (j + 1) in
    let ps = products xs ts in
    (lanes_read w32 (paired (product_lanes xs ts)) (raised w32 (evens ps) (odds ps))
    (pairs_added xs ts long_x long_t f g) (raised_fit w32 (evens ps) (odds ps))).0
    ∙ (λ i. let qs = products ((is_x ∙ x) i) (is_t i) in raised w32 (evens qs) (odds qs))
    ∙ (λ i. pair_sum taps window j at
    ∷ int_wrap w32 ((sample window (at + 2) *ℤ t) +ℤ (sample window (sym two i) *ℤ u))
    ∷ int_wrap w32 ((sample window (at + 4) *ℤ t) +ℤ (sample window (sym four i) *ℤ u))
    ∷ int_wrap w32 ((sample window (at + 6) *ℤ t) +ℤ (sample window (sym six i) *ℤ u))
    ∷ [])

-- ---- one tap in eight sums
abbrev tap_lanes : List ℤ → ℤ → List ℕ
tap_lanes xs t = zip2 (times_in w32) (bits_of w32 xs) (replicate 8 (of_z w32 t))

-- to wrap a product on the way changes nothing
wrapped_multiples : (n : ℕ) (t : ℤ) (sums xs : List ℤ) → length xs ≡ n →
    raised w32 sums (zip2 (λ x t. int_wrap w32 (x *ℤ t)) xs (replicate n t)) ≡ zip2
    (λ s x. int_wrap w32 (s +ℤ (t *ℤ x))) sums xs
wrapped_multiples n t [] xs e = refl
wrapped_multiples n t (s ∷ sums) [] e = refl
wrapped_multiples zero t (s ∷ sums) (x ∷ xs) e = absurd (omega (arith, e))
wrapped_multiples (suc n) t (s ∷ sums) (x ∷ xs) e =
    ap (λ z. z ∷ raised w32 sums (zip2 (λ x t. int_wrap w32 (x *ℤ t)) xs (replicate n t)))
    (int_wrap-add_right w32 s (x *ℤ t) ∙ ap (λ z. int_wrap w32 (s +ℤ z)) (*ℤ_comm x t))
    ∙ ap (λ l. int_wrap w32 (s +ℤ (t *ℤ x)) ∷ l) (wrapped_multiples n t sums xs (omega arith))

abbrev even_lanes : List ℤ → List ℤ → ℤ → List ℕ
even_lanes even xs t = zip2 (plus_in w32) (bits_of w32 even) (picked (tap_lanes xs t) (0 ∷ 2 ∷ 4 ∷ 6 ∷ []))

abbrev odd_lanes : List ℤ → List ℤ → ℤ → List ℕ
odd_lanes odd xs t = zip2 (plus_in w32) (bits_of w32 odd) (picked (tap_lanes xs t) (1 ∷ 3 ∷ 5 ∷ 7 ∷ []))

abbrev multiples : List ℤ → ℤ → List ℤ
multiples xs t = zip2 (λ x t. int_wrap w32 (x *ℤ t)) xs (replicate 8 t)

multiples_are : (xs : List ℤ) (t : ℤ) → length xs ≡ 8 → Each1 (SFits w16) xs → SFits w32 t
    → (length (multiples xs t) ≡ 8) × (tap_lanes xs t ≡ bits_of w32 (multiples xs t)) ×
    Each1 (SFits w32) (multiples xs t)
multiples_are xs t long f g =
    let ts = replicate 8 t in
    let long_t : length ts ≡ 8 = length-replicate 8 t in (
      length-zip2 (λ x t. int_wrap w32 (x *ℤ t)) xs ts (omega arith) ∙ long,
      ap (λ l. zip2 (times_in w32) (bits_of w32 xs) l) (splat_bits w32 8 t) ∙
          multiplied w32 xs ts (each_widens w16 w32 (omega arith) xs f) (Each1-replicate (SFits w32) 8 t g),
      summed_fit w32 (λ x t. x *ℤ t) xs ts,
    )

even_is : (even xs : List ℤ) (t : ℤ) → length xs ≡ 8 → Each1 (SFits w32) even → Each1 (SFits w16) xs → SFits w32 t →
    map (to_z w32) (even_lanes even xs t) ≡ raised w32 even (evens (multiples xs t))
even_is even xs t long h f g =
    let made = multiples_are xs t long f g in
    let ps = multiples xs t in
    (lanes_read w32 (even_lanes even xs t) (raised w32 even (evens ps))
    (ap (λ l. zip2 (plus_in w32) (bits_of w32 even) (picked l (0 ∷ 2 ∷ 4 ∷ 6 ∷ []))) made.1
    ∙ ap (zip2 (plus_in w32) (bits_of w32 even)) (evens_of_eight w32 ps made.0)
    ∙ added w32 even (evens ps) h (each_even (SFits w32) ps made.2))
    (raised_fit w32 even (evens ps))).0

odd_is : (odd xs : List ℤ) (t : ℤ) → length xs ≡ 8 → Each1 (SFits w32) odd → Each1 (SFits w16) xs → SFits w32 t →
    map (to_z w32) (odd_lanes odd xs t) ≡ raised w32 odd (odds (multiples xs t))
odd_is odd xs t long h f g =
    let made = multiples_are xs t long f g in
    let ps = multiples xs t in
    (lanes_read w32 (odd_lanes odd xs t) (raised w32 odd (odds ps))
    (ap (λ l. zip2 (plus_in w32) (bits_of w32 odd) (picked l (1 ∷ 3 ∷ 5 ∷ 7 ∷ []))) made.1
    ∙ ap (zip2 (plus_in w32) (bits_of w32 odd)) (odds_of_eight w32 ps made.0)
    ∙ added w32 odd (odds ps) h (each_odd (SFits w32) ps made.2))
    (raised_fit w32 odd (odds ps))).0

long_eight : (at : ℕ) (xs window : List ℤ) → xs ≡ chunk at 8 window → at + 8 ≤ length window → length xs ≡ 8
long_eight at xs window is room = ap length is ∙ length-chunk at 8 window room

pub tap_added : (at : ℕ) (even odd xs window : List ℤ) (t u : ℤ) → xs ≡ chunk at 8 window → t ≡ u →
    at + 8 ≤ length window → length even ≡ 4 → length odd ≡ 4 → Each1 (SFits w32) even → Each1 (SFits w32) odd →
    Each1 (SFits w16) xs → SFits w32 t
    → in_turn (map (to_z w32) (even_lanes even xs t)) (map (to_z w32) (odd_lanes odd xs t)) ≡ zip2
    (λ s x. int_wrap w32 (s +ℤ (u *ℤ x))) (in_turn even odd) (chunk at 8 window)
tap_added at even odd xs window t u is_x is_t room long_even long_odd fit_even fit_odd f g =
    let long = long_eight at xs window is_x room in
    let made = multiples_are xs t long f g in
    let long_made = made.0 in
    (λ i. in_turn (even_is even xs t long fit_even f g i) (odd_is odd xs t long fit_odd f g i))
    ∙ in_turn-zip2 (λ s p. int_wrap w32 (s +ℤ p)) even odd (multiples xs t) (omega arith)
    ∙ wrapped_multiples 8 t (in_turn even odd) xs long
    ∙ (λ i. zip2 (λ s x. int_wrap w32 (s +ℤ (is_t i *ℤ x))) (in_turn even odd) (is_x i))

pub tap_fits : (at : ℕ) (even odd xs window : List ℤ) (t : ℤ) → xs ≡ chunk at 8 window → at + 8 ≤ length window →
    length even ≡ 4 → length odd ≡ 4 → Each1 (SFits w32) even → Each1 (SFits w32) odd → Each1 (SFits w16) xs →
    SFits w32 t
    → Each1 (SFits w32) (map (to_z w32) (even_lanes even xs t)) ×
    Each1 (SFits w32) (map (to_z w32) (odd_lanes odd xs t)) × (length (map (to_z w32) (even_lanes even xs t)) ≡ 4) ×
    (length (map (to_z w32) (odd_lanes odd xs t)) ≡ 4)
tap_fits at even odd xs window t is_x room long_even long_odd fit_even fit_odd f g =
    let long = long_eight at xs window is_x room in
    let made = multiples_are xs t long f g in
    let ps = multiples xs t in
    let e = half_fits w32 4 (λ s p. s +ℤ p) _ even (evens ps) (even_is even xs t long fit_even f g) long_even
    (length-evens 4 ps made.0) in
    let o = half_fits w32 4 (λ s p. s +ℤ p) _ odd (odds ps) (odd_is odd xs t long fit_odd f g) long_odd
    (length-odds 4 ps made.0) in
    (e.0, o.0, e.1, o.1)

-- ---- two taps in eight sums
pair_step : (w : Width) (s a b : ℤ) → int_wrap w (s +ℤ (a +ℤ b)) ≡ int_wrap w (int_wrap w (s +ℤ a) +ℤ b)
pair_step w s a b = ap (int_wrap w) (sym (+ℤ_assoc s a b)) ∙ sym (int_wrap-add_left w (s +ℤ a) b)

-- both products at once are one after the other
both_steps : (w : Width) (t u : ℤ) (x y : ℕ → ℤ) (sums : List ℤ) (ks : List ℕ)
    → raised w sums (map (λ k. (x k *ℤ t) +ℤ (y k *ℤ u)) ks)
    ≡ zip2 (λ s b. int_wrap w (s +ℤ (u *ℤ b))) (zip2 (λ s a. int_wrap w (s +ℤ (t *ℤ a))) sums (map x ks)) (map y ks)
both_steps w t u x y [] ks = refl
both_steps w t u x y (s ∷ sums) [] = refl
both_steps w t u x y (s ∷ sums) (k ∷ ks) =
    ap (λ z. z ∷ raised w sums (map (λ k. (x k *ℤ t) +ℤ (y k *ℤ u)) ks))
    (pair_step w s (x k *ℤ t) (y k *ℤ u) ∙ (λ i. int_wrap w (int_wrap w (s +ℤ *ℤ_comm (x k) t i) +ℤ *ℤ_comm (y k) u i)))
    ∙ ap (λ l. int_wrap w (int_wrap w (s +ℤ (t *ℤ x k)) +ℤ (u *ℤ y k)) ∷ l) (both_steps w t u x y sums ks)

-- to wrap what is added changes nothing
raised_wraps : (w : Width) (sums ss : List ℤ) → raised w sums (map (int_wrap w) ss) ≡ raised w sums ss
raised_wraps w [] ss = refl
raised_wraps w (s ∷ sums) [] = refl
raised_wraps w (s ∷ sums) (x ∷ ss) = (λ i. int_wrap-add_right w s x i ∷ raised_wraps w sums ss i)

abbrev pair_lanes : List ℤ → List ℤ → List ℕ
pair_lanes sums pairs = zip2 (plus_in w32) (bits_of w32 sums) (bits_of w32 pairs)

four_fits : (taps window : List ℤ) (j at : ℕ) → Each1 (SFits w32) (four (pair_sum taps window j) at)
four_fits taps window j at = (
  SFits-int_wrap w32 _,
  (
    SFits-int_wrap w32 _,
    (SFits-int_wrap w32 _, (SFits-int_wrap w32 _, tt)),
  ),
)

pub half_is : (taps window sums pairs : List ℤ) (j at : ℕ) → Each1 (SFits w32) sums →
    pairs ≡ four (pair_sum taps window j) at → map (to_z w32) (pair_lanes sums pairs) ≡ raised w32 sums
    (four (pair_sum taps window j) at)
half_is taps window sums pairs j at f is =
    let ps = four (pair_sum taps window j) at in
    (lanes_read w32 (pair_lanes sums pairs) (raised w32 sums ps)
    (ap (pair_lanes sums) is ∙ added w32 sums ps f (four_fits taps window j at)) (raised_fit w32 sums ps)).0

-- values two apart, for even and odd places, are values one apart
fours_in_turn : (w : Width) (g : ℕ → ℤ) (even odd : List ℤ) (at : ℕ) → length even ≡ 4 → length odd ≡ 4
    → in_turn (raised w even (four g at)) (raised w odd (four g (at + 1))) ≡ raised w (in_turn even odd)
    (values 8 (λ k. g (at + k)))
fours_in_turn w g even odd at long_even long_odd =
    let e0 : at ≡ at + 0 = omega arith in
    let e3 : at + 1 + 2 ≡ at + 3 = omega arith in
    let e5 : at + 1 + 4 ≡ at + 5 = omega arith in
    let e7 : at + 1 + 6 ≡ at + 7 = omega arith in
    let ps = values 8 (λ k. g (at + k)) in
    (λ i. in_turn (raised w even (g (e0 i) ∷ g (at + 2) ∷ g (at + 4) ∷ g (at + 6) ∷ []))
    (raised w odd (g (at + 1) ∷ g (e3 i) ∷ g (e5 i) ∷ g (e7 i) ∷ [])))
    ∙ in_turn-zip2 (λ s p. int_wrap w (s +ℤ p)) even odd ps (omega arith)

-- what two taps give at a place
abbrev pub pair_at : List ℤ → List ℤ → ℕ → ℕ → ℤ
pair_at taps window j p = (sample window p *ℤ sample taps j) +ℤ (sample window (p + 1) *ℤ sample taps (j + 1))

pub pairs_raise : (w : Width) (taps window even odd : List ℤ) (j at : ℕ) → length even ≡ 4 → length odd ≡ 4 →
    at + 1 + 8 ≤ length window
    → in_turn (raised w even (four (pair_at taps window j) at)) (raised w odd (four (pair_at taps window j) (at + 1)))
    ≡ zip2 (λ s x. int_wrap w (s +ℤ (sample taps (j + 1) *ℤ x)))
    (zip2 (λ s x. int_wrap w (s +ℤ (sample taps j *ℤ x))) (in_turn even odd) (chunk at 8 window))
    (chunk (at + 1) 8 window)
pairs_raise w taps window even odd j at long_even long_odd room =
    let t = sample taps j in
    let u = sample taps (j + 1) in
    let swap : (k : ℕ) → at + k + 1 ≡ at + 1 + k = λ k. omega arith in
    fours_in_turn w (pair_at taps window j) even odd at long_even long_odd
    ∙ (λ i. raised w (in_turn even odd) (map (λ k. (sample window (at + k) *ℤ t) +ℤ (sample window (swap k i) *ℤ u))
    (range_with_len 0 8)))
    ∙ both_steps w t u (λ k. sample window (at + k)) (λ k. sample window (at + 1 + k)) (in_turn even odd)
    (range_with_len 0 8)
    ∙ (λ i. zip2 (λ s b. int_wrap w (s +ℤ (u *ℤ b))) (zip2 (λ s a. int_wrap w (s +ℤ (t *ℤ a))) (in_turn even odd)
    (sym (chunk-values at 8 window (omega arith)) i)) (sym (chunk-values (at + 1) 8 window room) i))

pub pair_added : (taps window even odd : List ℤ) (j at : ℕ) → length even ≡ 4 → length odd ≡ 4 →
    at + 1 + 8 ≤ length window
    → in_turn (raised w32 even (four (pair_sum taps window j) at))
    (raised w32 odd (four (pair_sum taps window j) (at + 1)))
    ≡ zip2 (λ s x. int_wrap w32 (s +ℤ (sample taps (j + 1) *ℤ x)))
    (zip2 (λ s x. int_wrap w32 (s +ℤ (sample taps j *ℤ x))) (in_turn even odd) (chunk at 8 window))
    (chunk (at + 1) 8 window)
pair_added taps window even odd j at long_even long_odd room =
    (λ i. in_turn (raised_wraps w32 even (four (pair_at taps window j) at) i)
    (raised_wraps w32 odd (four (pair_at taps window j) (at + 1)) i))
    ∙ pairs_raise w32 taps window even odd j at long_even long_odd room

-- ---- samples, read and written
pub eight_read : (w : Width) → hbits w ≤ hbits w16 → (at : ℕ) (samples : List ℤ) → All (SFits w) samples →
    at + 8 ≤ length samples
    → Castable w w32 (bits_of w (chunk at 8 samples)) ×
    (map (to_z w32) (widened w w32 (chunk at 8 samples)) ≡ chunk at 8 (map (λ x. x) samples)) ×
    Each1 (SFits w16) (map (to_z w32) (widened w w32 (chunk at 8 samples)))
eight_read w narrow at samples f room =
    let xs = chunk at 8 samples in
    let fit : Each1 (SFits w) xs = group_fits w at 8 samples f room in
    let small : hbits w ≤ hbits w32 = omega arith in
    let wide : Each1 (SFits w32) xs = each_widens w w32 small xs fit in
    let is = ap (map (to_z w32)) (casts_are w w32 xs fit) ∙ ints_of_bits w32 xs wide in (
      casts_asked w w32 xs fit wide,
      is ∙ ap (chunk at 8) (sym (map-id samples)),
      subst (λ (l : List ℤ). Each1 (SFits w16) l) (sym is) (each_widens w w16 narrow xs fit),
    )

-- ---- narrow taps
abs-add : (a b : ℤ) → unsigned_abs (a +ℤ b) ≤ unsigned_abs a + unsigned_abs b
abs-add (pos a) (pos b) = omega arith
abs-add (pos a) (negsuc b) = grind (arith, ints)
abs-add (negsuc a) (pos b) = grind (arith, ints)
abs-add (negsuc a) (negsuc b) = grind (arith, ints)

row_bound : (taps window : List ℤ) (p : ℕ) → ((k : ℕ) → unsigned_abs (sample window k) ≤ 32768) →
    unsigned_abs (row taps window (length taps) p) ≤ sum (map unsigned_abs taps) * 32768
row_bound [] window p small = omega arith
row_bound (t ∷ taps) window p small =
    let later : sum_below (length taps) (λ k. sample taps k *ℤ sample window (p + suc k)) ≡ row taps window
    (length taps) (p + 1) =
    sum_below_cong (length taps) (λ k. sample taps k *ℤ sample window (p + suc k))
    (λ k. sample taps k *ℤ sample window (p + 1 + k)) (λ k lt. let e : p + suc k ≡ p + 1 + k = omega arith in
    ap (λ q. sample taps k *ℤ sample window q) e) in
    let whole : row (t ∷ taps) window (suc (length taps)) p ≡ (t *ℤ sample window (p + 0)) +ℤ row taps window
    (length taps) (p + 1) =
    sum_below-front (length taps) (λ k. sample (t ∷ taps) k *ℤ sample window (p + k)) ∙
    ap (λ z. (t *ℤ sample window (p + 0)) +ℤ z) later in
    let self : unsigned_abs t ≤ unsigned_abs t = omega arith in
    let first : unsigned_abs (t *ℤ sample window (p + 0)) ≤ unsigned_abs t * 32768 =
    rw (unsigned_abs-mul t (sample window (p + 0))) (mul-le-mul self (small (p + 0))) in
    let rest = row_bound taps window (p + 1) small in
    let both = abs-add (t *ℤ sample window (p + 0)) (row taps window (length taps) (p + 1)) in
    let same = ap unsigned_abs whole in
    let terms : sum (map unsigned_abs (t ∷ taps)) ≡ unsigned_abs t + sum (map unsigned_abs taps) =
    sum_by-cons (λ x. x) (unsigned_abs t) (map unsigned_abs taps) in
    let bound : unsigned_abs (row (t ∷ taps) window (suc (length taps)) p) ≤ sum (map unsigned_abs (t ∷ taps)) * 32768
    = omega (arith, first, rest, both, same, terms) in
    bound

narrow_fits : (taps window : List ℤ) (p : ℕ) → sum (map unsigned_abs taps) ≤ 65535 →
    ((k : ℕ) → unsigned_abs (sample window k) ≤ 32768) → SFits w32 (row taps window (length taps) p)
narrow_fits taps window p narrow small =
    let bound = row_bound taps window p small in
    fits_signed_from_abs w32 (row taps window (length taps) p) (omega arith)

in_word : (x : ℤ) → SFits w16 x → unsigned_abs x ≤ 32768
in_word x f = omega (arith, ints, f)

widened_fits : (x : ℤ) → SFits w32 x → SFits w64 x
widened_fits x f = omega (arith, ints, f)

samples_small : (xs : List ℤ) → All (SFits w16) xs → (k : ℕ) → unsigned_abs (sample xs k) ≤ 32768
samples_small xs f k = by_lt (cases_lt k (length xs))
  where
    by_lt : (k < length xs) ⊎ (length xs ≤ k) → unsigned_abs (sample xs k) ≤ 32768
    by_lt h = ⊎_elim (λ lt. in_word (sample xs k) (f k (pos 0) lt)) (λ le. past le) h
      where
        past : length xs ≤ k → unsigned_abs (sample xs k) ≤ 32768
        past le = let e : sample xs k ≡ pos 0 = get_or_past xs k (pos 0) le in
            let z : unsigned_abs (sample xs k) ≡ 0 = ap unsigned_abs e in omega (arith, z)

-- a sum by narrow taps wraps in 32 bits no more than in 64
pub narrow_wraps : (taps window : List ℤ) (p : ℕ) → sum (map unsigned_abs taps) ≤ 65535 → All (SFits w16) window →
    int_wrap w32 (row taps window (length taps) p) ≡ int_wrap w64 (row taps window (length taps) p)
narrow_wraps taps window p narrow f =
    let s = row taps window (length taps) p in
    let fits = narrow_fits taps window p narrow (samples_small window f) in
    int_wrap_fits w32 s fits ∙ sym (int_wrap_fits w64 s (widened_fits s fits))
