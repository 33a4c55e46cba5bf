-- One more turn of a loop that makes a list or a sum by its places.
use Rattle.std.proofs.Common.{◌≡◌, ◌∙◌, ap, sym, refl, ℕ, ◌+◌, ◌*◌, ◌^◌, ◌<◌, ◌≤◌, ℤ, ◌+ℤ◌, [], ◌∷◌, ◌++◌, SFits, to_z, of_z}
use Rattle.std.proofs.Common.{add-one, arith}
use Rattle.std.specs.Prelude.{nat_abs}
use Rattle.std.specs.Int.{w128}
use Rattle.std.proofs.lemmas.Int.{to_z-of_z, fits_signed_from_abs}
use Rattle.std.proofs.lemmas.List.FromFn.{map-range_with_len_more}
use Rattle.dsp_defs.specs.Signal.{sum_below, values}
use Rattle.dsp_exact.proofs.Exact.{abs-add}

pub values-push : {A : Type 0} (f : ℕ → A) (n : ℕ) → values (n + 1) f ≡ values n f ++ f n ∷ []
values-push f n = map-range_with_len_more f 0 n n (omega arith)

pub sum-push : (f : ℕ → ℤ) (n : ℕ) → sum_below (n + 1) f ≡ sum_below n f +ℤ f n
sum-push f n = rw add-one refl

-- one term more of a sum of terms below 2^62
pub sum-more : (f : ℕ → ℤ) (k : ℕ) (s t : ℤ) → s ≡ sum_below k f → t ≡ f k → SFits w128 t → nat_abs s ≤ k * 2 ^ 62
    → nat_abs t ≤ 2 ^ 62 → k < 2 ^ 64 → (to_z w128 (of_z w128 (s +ℤ to_z w128 (of_z w128 t))) ≡ sum_below (k + 1) f)
    × (nat_abs (to_z w128 (of_z w128 (s +ℤ to_z w128 (of_z w128 t)))) ≤ (k + 1) * 2 ^ 62)
sum-more f k s t is_s is_t fits small_s small_t few =
    let small : nat_abs (s +ℤ t) ≤ (k + 1) * 2 ^ 62 = omega (arith, abs-add s t, small_s, small_t) in
    let exact : to_z w128 (of_z w128 (s +ℤ to_z w128 (of_z w128 t))) ≡ s +ℤ t =
    ap (λ z. to_z w128 (of_z w128 (s +ℤ z))) (to_z-of_z w128 t fits)
    ∙ to_z-of_z w128 (s +ℤ t) (fits_signed_from_abs w128 (s +ℤ t) (omega (arith, small, few))) in
    (exact ∙ (λ i. is_s i +ℤ is_t i) ∙ sym (sum-push f k), rw exact small)
