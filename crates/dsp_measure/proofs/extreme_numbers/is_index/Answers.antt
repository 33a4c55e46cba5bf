use Rattle.std.proofs.Common.{◌≡◌, ℕ, zero, suc, ◌≤◌, ℤ, pos, negsuc, ◌≤ℤ◌, ◌<ℤ◌, true, false, Bool, T, arith, refl}
use Rattle.std.proofs.Common.{sym, subst, ◌∙◌, to_z-of_z}
use Rattle.std.specs.Prelude.{IsTrue, int_le}
use Rattle.std.specs.Int.Signed.{le_z_yes, lt_z_yes}
use Rattle.std.proofs.lemmas.Int.{ints}
use Rattle.std.proofs.lemmas.Bool.Decides.{nat_tests}
use Rattle.dsp_defs.specs.Kept.{Below, Fixed, IsOfKind}
use Rattle.dsp_measure.specs.Extremes.{IsFew}
use Rattle.dsp_measure.proofs.extreme_numbers.is_index.Goals as goal
use Rattle.dsp_measure.proofs.extreme_numbers.is_index.Goals.{then-index-ge0, else-index-ge0}

-- an index within a count, of which only the size is to be tested
index-fits : (index count : ℤ) → pos 0 ≤ℤ index → index <ℤ count →
    (IsTrue (int_le count (pos 4611686018427387903)) → (n : ℕ) × IsFew (suc n) × IsOfKind (Below (suc n)) index ×
    IsOfKind (Fixed (suc n)) count)
    × (((n : ℕ) × IsFew (suc n) × IsOfKind (Below (suc n)) index × IsOfKind (Fixed (suc n)) count) →
    IsTrue (int_le count (pos 4611686018427387903)))
index-fits index (pos zero) from below = absurd (omega (arith, ints, from, below))
index-fits index (pos (suc n)) from below = (
  λ yes. (n, grind (arith, nat_tests), (from, below), refl),
  λ fits. few fits.0 fits.1 fits.3,
)
  where
    few : (m : ℕ) → IsFew (suc m) → pos (suc n) ≡ pos (suc m) → IsTrue (int_le (pos (suc n)) (pos 4611686018427387903))
    few m small same = (let e : n ≡ m = cc in let le : suc n ≤ 4611686018427387903 = omega arith in
        grind (arith, nat_tests))
index-fits index (negsuc n) from below = absurd (omega (arith, ints, from, below))

tested : (b : Bool) → b ≡ true → T b
tested true h = tt
tested false h = cc

pub returns-then-index-count : goal.returns-then-index-count
returns-then-index-count c =
    let index = to_z-of_z c.ranges.index in
    let count = to_z-of_z c.ranges.count in
    elim c.if-index-ge0.branch [
      | then-index-ge0 w ↦ (
          let from : pos 0 ≤ℤ c.args.index = subst (λ z. pos 0 ≤ℤ z) index (le_z_yes (tested _ w.if-index-ge0.true)) in
          let below : c.args.index <ℤ c.args.count = subst (λ (p : ℤ × ℤ). p.0 <ℤ p.1) (λ i. (index i, count i))
          (lt_z_yes (tested _ (sym w.value-is ∙ c.if-index-count.true))) in
          rw count (index-fits c.args.index c.args.count from below))
      | else-index-ge0 w ↦ absurd (never (sym c.if-index-count.true ∙ w.value-is ∙ w.if-index-ge0.false))
    ]
  where
    never : true ≡ false → ⊥
    never h = cc
