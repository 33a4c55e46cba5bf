use Rattle.std.proofs.Common.{ℕ, ◌≡◌, ◌-◌, ◌*◌, ◌≤◌, ◌*ℤ◌, length, map}
use Rattle.dsp_defs.specs.Numbers.{wrap}
use Rattle.dsp_defs.specs.Formats.{accumulator}
use Rattle.dsp_defs.specs.Signal.{sample, sum_below}
use Rattle.dsp_defs.specs.Counts.{Rises}
use Rattle.dsp_lanes.specs.Turns.{RisesWithin}
use Rattle.dsp_lanes.proofs.dots.dot_groups.Given as goal

abbrev pub invariant-groups : goal.invariant-groups
invariant-groups g l = record {
  within : l.at ≤ length l.taps;
  fit : g.F.DotForm.AreSums l.sums;
  done : wrap (accumulator g.T.Sample.format) (g.F.DotForm.value l.sums) ≡ wrap (accumulator g.T.Sample.format)
      (sum_below l.at (λ k. sample (map g.T.Sample.number l.taps) k *ℤ sample (map g.T.Sample.number l.window) k));
  counted : (k : ℕ) × (k * l.size ≡ l.at) × RisesWithin l.initial.steps l.steps (1 * l.at) (1 * k);
}

abbrev pub decreases-groups : goal.decreases-groups
decreases-groups g l = length l.taps - l.at

abbrev pub invariant-rest : goal.invariant-rest
invariant-rest g l = record {
  within : l.at ≤ length l.taps;
  started : l.initial.at ≤ l.at;
  done : g.T.Sample.total l.sum ≡ wrap (accumulator g.T.Sample.format)
      (sum_below l.at (λ k. sample (map g.T.Sample.number l.taps) k *ℤ sample (map g.T.Sample.number l.window) k));
  counted : Rises l.initial.steps l.steps (1 * (l.at - l.initial.at)) (1 * (l.at - l.initial.at));
}

abbrev pub decreases-rest : goal.decreases-rest
decreases-rest g l = length l.taps - l.at
