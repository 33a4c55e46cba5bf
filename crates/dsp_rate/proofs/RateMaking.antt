-- What a maker of this crate knows behind its tests.
use Rattle.std.proofs.Common.{◌≡◌, ◌∙◌, ap, sym, ℕ, ◌*◌, ◌/◌, ◌%◌, ◌<◌, ◌≤◌, None, pos, List, [], length}
use Rattle.std.proofs.Common.{replicate, max, ℤ, arith, ⊎_elim}
use Rattle.std.specs.Option.{MatchOption}
use Rattle.std.proofs.lemmas.Bool.{cases_lt}
use Rattle.std.proofs.lemmas.Grind.{common_steps}
use Rattle.std.proofs.lemmas.List.{append-nil}
use Rattle.std.proofs.lemmas.Nat.{div-add-mod'}
use Rattle.std.proofs.Math.Nat.{div-le_self, zero-mod}
use Rattle.dsp_defs.specs.declared.fault.MakeFault.{MakeFault}
use Rattle.dsp_defs.specs.declared.limits.TheConstants.{MAX_TAPS}
use Rattle.dsp_filter.specs.Making.{block_fault, multiple_fault, taps_fault}
use Rattle.dsp_filter.proofs.Faults.{multiple-within, no-fault}
use Rattle.dsp_rate.specs.DecimateState.{StandsFor, decimate_fault, factor_fault, new_decimate, past_length}
use Rattle.dsp_rate.specs.InterpolateState.{interpolate_fault}

some-factor : (factor : ℕ) → 0 < factor → factor_fault factor ≡ None
some-factor factor some = grind (arith, common_steps)

pub no-decimate_fault : (P : Type 0) (Q : MakeFault → Type 0) (factor n block : ℕ) → 0 < factor →
    taps_fault n ≡ None → block_fault block ≡ None → P → MatchOption (decimate_fault factor n block) P Q
no-decimate_fault P Q factor n block some taps fits p = no-fault P Q _ _ _ taps (some-factor factor some) fits p

pub new-stands : (factor : ℕ) (taps : List ℤ) (block : ℕ) → StandsFor (new_decimate factor taps block) []
new-stands factor taps block = record {
  past_is = sym (append-nil (replicate (past_length factor (length taps)) (pos 0)));
  phase_is = sym (zero-mod factor);
}

-- the taps come in groups of m, which is the factor
module _ (factor m n : ℕ) (same : m ≡ factor) (tested : multiple_fault MAX_TAPS m n ≡ None) where
  pub taps-whole : (1 ≤ n) × (n ≤ MAX_TAPS) × (n % factor ≡ 0)
  taps-whole = let within = multiple-within MAX_TAPS m n tested in
      (within.0, within.1, ap (λ k. n % k) (sym same) ∙ within.2)

  pub phase-some : 1 ≤ n / factor
  phase-some = ⊎_elim
      (λ (low : n / factor < 1).
      let none : n / factor ≡ 0 = omega arith in
      let zero : n / factor * factor ≡ 0 = ap (λ k. k * factor) none ∙ omega arith in
      absurd (omega (arith, div-add-mod' n factor, zero, taps-whole.0, taps-whole.2)))
      (λ (some : 1 ≤ n / factor). some) (cases_lt (n / factor) 1)

  pub phase-few : n / factor ≤ MAX_TAPS
  phase-few = omega (arith, div-le_self n factor, taps-whole.1)

  pub no-interpolate_fault : (P : Type 0) (Q : MakeFault → Type 0) (block : ℕ) → 0 < factor →
      block_fault block ≡ None → P → MatchOption (interpolate_fault factor n block) P Q
  no-interpolate_fault P Q block some fits p =
      let greater : max factor 1 ≡ m = omega (arith, same, some) in
      no-fault P Q _ _ _ (ap (λ k. multiple_fault MAX_TAPS k n) greater ∙ tested) (some-factor factor some) fits p
