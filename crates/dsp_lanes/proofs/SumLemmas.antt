-- Sums in words, in any grouping.
use Rattle.std.proofs.Common.{ℕ, ◌≡◌, ◌<◌, ◌≤◌, ◌+◌, ◌-◌, ◌*◌, ◌/◌, zero, suc, List, [], ◌∷◌, ◌++◌, length, take}
use Rattle.std.proofs.Common.{drop, replicate, refl, sym, ap, ◌∙◌, arith, length-drop, length-take-le}
use Rattle.std.proofs.Common.{take-append-drop, take-add}
use Rattle.std.proofs.lemmas.Int.{ints}
use Rattle.std.proofs.lemmas.Simd.{length-zip2, length-replicate}
use Rattle.std.proofs.Math.Nat.{div-mul-le_self}
use Rattle.std.specs.Prelude.{ℤ, pos, ◌+ℤ◌}
use lib.IntN.{+ℤ_assoc, +ℤ_idl, +ℤ_idr}
use lib.Lanes.{zip2}
use Rattle.dsp_lanes.specs.Regrouped.{wrap_bits}
use Rattle.dsp_lanes.specs.Regrouped.{list_sum, wrapped_sum, lane_sums, regrouped_sum}
use Rattle.dsp_lanes.proofs.WordLemmas.{wrap_bits-add_left, wrap_bits-add_right}

list_sum-append : (xs ys : List ℤ) → list_sum (xs ++ ys) ≡ list_sum xs +ℤ list_sum ys
list_sum-append [] ys = sym (+ℤ_idl (list_sum ys))
list_sum-append (x ∷ xs) ys = ap (λ s. x +ℤ s) (list_sum-append xs ys) ∙ sym (+ℤ_assoc x (list_sum xs) (list_sum ys))

-- ... and without the last wrap, since each addition had one
wrapped_sum_more : (n : ℕ) (s x : ℤ) (xs : List ℤ) → wrapped_sum n s (x ∷ xs) ≡ wrap_bits n (s +ℤ list_sum (x ∷ xs))
wrapped_sum_more n s x [] = ap (λ y. wrap_bits n (s +ℤ y)) (sym (+ℤ_idr x))
wrapped_sum_more n s x (y ∷ ys) = wrapped_sum_more n (wrap_bits n (s +ℤ x)) y ys ∙
    wrap_bits-add_left n (s +ℤ x) (list_sum (y ∷ ys)) ∙ ap (wrap_bits n) (+ℤ_assoc s x (list_sum (y ∷ ys)))

-- a group is added to the lanes
list_sum-lanes : (n : ℕ) (lanes xs : List ℤ) → length lanes ≡ length xs →
    wrap_bits n (list_sum (zip2 (λ s x. wrap_bits n (s +ℤ x)) lanes xs)) ≡ wrap_bits n (list_sum lanes +ℤ list_sum xs)
list_sum-lanes n [] [] e = refl
list_sum-lanes n [] (x ∷ xs) e = absurd (omega (arith, e))
list_sum-lanes n (s ∷ lanes) [] e = absurd (omega (arith, e))
list_sum-lanes n (s ∷ lanes) (x ∷ xs) e =
    let rest = zip2 (λ s x. wrap_bits n (s +ℤ x)) lanes xs in
    wrap_bits-add_left n (s +ℤ x) (list_sum rest)
    ∙ sym (wrap_bits-add_right n (s +ℤ x) (list_sum rest))
    ∙ ap (λ t. wrap_bits n ((s +ℤ x) +ℤ t)) (list_sum-lanes n lanes xs (omega arith))
    ∙ wrap_bits-add_right n (s +ℤ x) (list_sum lanes +ℤ list_sum xs)
    ∙ ap (wrap_bits n) (omega (arith, ints))

wrapped_sum_from : (n : ℕ) (s : ℤ) (xs : List ℤ) → wrapped_sum n (wrap_bits n s) xs ≡ wrap_bits n (s +ℤ list_sum xs)
wrapped_sum_from n s [] = ap (wrap_bits n) (sym (+ℤ_idr s))
wrapped_sum_from n s (x ∷ xs) = wrapped_sum_more n (wrap_bits n s) x xs ∙ wrap_bits-add_left n s (list_sum (x ∷ xs))

length-lane_sums : (n L k : ℕ) (lanes xs : List ℤ) → length lanes ≡ L → k * L ≤ length xs →
    length (lane_sums n L k lanes xs) ≡ L
length-lane_sums n L zero lanes xs e h = e
length-lane_sums n L (suc k) lanes xs e h =
    let more : L + k * L ≤ length xs = omega arith in
    let taken : length (take L xs) ≡ L = length-take-le L xs (omega arith) in
    let dropped : length (drop L xs) ≡ length xs - L = length-drop L xs in
    length-lane_sums n L k (zip2 (λ s x. wrap_bits n (s +ℤ x)) lanes (take L xs)) (drop L xs)
    (length-zip2 (λ s x. wrap_bits n (s +ℤ x)) lanes (take L xs) (omega arith) ∙ e) (omega arith)

list_sum-lane_sums : (n L k : ℕ) (lanes xs : List ℤ) → length lanes ≡ L → k * L ≤ length xs →
    wrap_bits n (list_sum (lane_sums n L k lanes xs)) ≡ wrap_bits n (list_sum lanes +ℤ list_sum (take (k * L) xs))
list_sum-lane_sums n L zero lanes xs e h =
    let none : 0 ≡ zero * L = omega arith in
    ap (wrap_bits n) (sym (+ℤ_idr (list_sum lanes)) ∙ ap (λ m. list_sum lanes +ℤ list_sum (take m xs)) none)
list_sum-lane_sums n L (suc k) lanes xs e h =
    let more : L + k * L ≤ length xs = omega arith in
    let taken : length (take L xs) ≡ L = length-take-le L xs (omega arith) in
    let dropped : length (drop L xs) ≡ length xs - L = length-drop L xs in
    let next = zip2 (λ s x. wrap_bits n (s +ℤ x)) lanes (take L xs) in
    let later = list_sum (take (k * L) (drop L xs)) in
    let sums : wrap_bits n (list_sum next) ≡ wrap_bits n (list_sum lanes +ℤ list_sum (take L xs)) =
    list_sum-lanes n lanes (take L xs) (omega arith) in
    let is_long : length next ≡ L = length-zip2 (λ s x. wrap_bits n (s +ℤ x)) lanes (take L xs) (omega arith) ∙ e in
    let whole : list_sum (take L xs) +ℤ later ≡ list_sum (take (suc k * L) xs) =
    sym (list_sum-append (take L xs) (take (k * L) (drop L xs))) ∙ ap list_sum (sym (take-add L (k * L) xs)) ∙
    ap (λ m. list_sum (take m xs)) (omega arith) in
    list_sum-lane_sums n L k next (drop L xs) is_long (omega arith)
    ∙ sym (wrap_bits-add_left n (list_sum next) later)
    ∙ ap (λ t. wrap_bits n (t +ℤ later)) sums
    ∙ wrap_bits-add_left n (list_sum lanes +ℤ list_sum (take L xs)) later
    ∙ ap (wrap_bits n) (+ℤ_assoc (list_sum lanes) (list_sum (take L xs)) later ∙ ap (λ t. list_sum lanes +ℤ t) whole)

pub list_sum-zeros : (k : ℕ) → list_sum (replicate k (pos 0)) ≡ pos 0
list_sum-zeros zero = refl
list_sum-zeros (suc k) = +ℤ_idl (list_sum (replicate k (pos 0))) ∙ list_sum-zeros k

lanes_then_rest : (n L : ℕ) (lanes rest : List ℤ) → length lanes ≡ L → 0 < L →
    wrapped_sum n (wrapped_sum n (pos 0) lanes) rest ≡ wrap_bits n (list_sum lanes +ℤ list_sum rest)
lanes_then_rest n L [] rest e some = absurd (omega (arith, e))
lanes_then_rest n L (s ∷ lanes) rest e some =
    ap (λ t. wrapped_sum n t rest) (wrapped_sum_more n (pos 0) s lanes ∙
    ap (wrap_bits n) (+ℤ_idl (list_sum (s ∷ lanes)))) ∙ wrapped_sum_from n (list_sum (s ∷ lanes)) rest

pub regroup : (n L : ℕ) → 0 < L → (xs : List ℤ) → regrouped_sum n L xs ≡ wrap_bits n (list_sum xs)
regroup n L some xs =
    let k = length xs / L in
    let fits : k * L ≤ length xs = omega (arith, div-mul-le_self (length xs) L) in
    let zeros = replicate L (pos 0) in
    let lanes = lane_sums n L k zeros xs in
    let rest = drop (k * L) xs in
    let front = take (k * L) xs in
    lanes_then_rest n L lanes rest (length-lane_sums n L k zeros xs (length-replicate L (pos 0)) fits) some
    ∙ sym (wrap_bits-add_left n (list_sum lanes) (list_sum rest))
    ∙ ap (λ t. wrap_bits n (t +ℤ list_sum rest)) (list_sum-lane_sums n L k zeros xs (length-replicate L (pos 0)) fits)
    ∙ wrap_bits-add_left n (list_sum zeros +ℤ list_sum front) (list_sum rest)
    ∙ ap (wrap_bits n) (ap (λ t. (t +ℤ list_sum front) +ℤ list_sum rest) (list_sum-zeros L) ∙
    ap (λ t. t +ℤ list_sum rest) (+ℤ_idl (list_sum front)) ∙ sym (list_sum-append front rest) ∙
    ap list_sum (take-append-drop (k * L) xs))
