use Rattle.std.proofs.Common.{◌≡◌, ◌<◌, ◌*◌, ◌+◌, ◌/◌, ◌%◌, ℕ, length, map}
use Rattle.std.specs.Prelude.{◌*ℤ◌}
use Rattle.dsp_defs.specs.Formats.{close}
use Rattle.dsp_defs.specs.Signal.{sample, sum_below}
use Rattle.dsp_lanes.specs.Turns.{RisesWithin, lane_turns}
use Rattle.dsp_rate.proofs.phases.phase_rows.Given as goal

-- the places of the phases so far are written, and their products counted
abbrev pub invariant-loop-phase : goal.invariant-loop-phase
invariant-loop-phase g l = record {
  written :
      (k : ℕ) → k < length l.out → k % l.factor < l.phase →
      sample (map g.T.Sample.number l.out) k
      ≡ close g.T.Sample.format (sum_below l.count (λ j. sample (map g.T.Sample.number l.phases)
      (k % l.factor * l.count + j) *ℤ sample (map g.T.Sample.number l.window) (k / l.factor + j)));
  counted : RisesWithin l.initial.steps l.steps (l.phase * (l.count * l.n))
      (l.phase * (l.count * lane_turns g.row.L l.n));
}
