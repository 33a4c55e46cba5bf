use Rattle.std.proofs.Common.{◌≤◌, ◌*◌, ◌-◌, length}
use Rattle.dsp_defs.specs.Counts.{Rises}
use Rattle.dsp_filter.proofs.Waves.{Turned}
use Rattle.dsp_filter.proofs.turning.run_turns.Given as goal

-- the samples so far were taken, and those but the last three are values of the fourth machine
abbrev pub invariant-pairs : goal.invariant-pairs
invariant-pairs g l = record {
  whole : g.W.Turning.IsWhole l.machines;
  three : 3 ≤ l.at;
  inside : l.at ≤ length l.samples;
  turned : Turned g.T.Sample.number l.initial.samples l.samples l.at (g.W.Turning.wave l.initial.machines)
      (g.W.Turning.wave l.machines);
  steps : Rises l.initial.steps l.steps ((l.at - 3) * (4 * g.W.Turning.price)) ((l.at - 3) * (4 * g.W.Turning.price));
}

abbrev pub decreases-pairs : goal.decreases-pairs
decreases-pairs g l = length l.samples - l.at
