use Rattle.std.proofs.Common.{◌≡◌, ◌-◌, ◌+◌, ◌*◌, ◌≤◌, length, map, take}
use Rattle.dsp_defs.specs.Formats.{close}
use Rattle.dsp_defs.specs.Signal.{values}
use Rattle.dsp_lanes.specs.Rows.{row_at}
use Rattle.dsp_lanes.specs.Turns.{RisesWithin, lane_turns}
use Rattle.dsp_lanes.proofs.lanes.Lanes.strided_rows.Given as goal

-- the values so far are written and counted
abbrev pub invariant-fours : goal.invariant-fours
invariant-fours g l = record {
  within : l.at ≤ length l.out;
  written : take l.at (map g.T.Sample.number l.out) ≡ values l.at
      (λ i. close g.T.Sample.format (row_at (map g.T.Sample.number l.taps) (map g.T.Sample.number l.window)
      (l.first + i * l.step)));
  counted : RisesWithin l.initial.steps l.steps (l.at * length l.taps) (l.at * lane_turns g.row.L (length l.taps));
}

abbrev pub decreases-fours : goal.decreases-fours
decreases-fours g l = length l.out - l.at

abbrev pub invariant-rest : goal.invariant-rest
invariant-rest g l = record {
  within : l.at ≤ length l.out;
  written : take l.at (map g.T.Sample.number l.out) ≡ values l.at
      (λ i. close g.T.Sample.format (row_at (map g.T.Sample.number l.taps) (map g.T.Sample.number l.window)
      (l.first + i * l.step)));
  counted : RisesWithin l.fn.steps l.steps (l.at * length l.taps) (l.at * lane_turns g.row.L (length l.taps));
}

abbrev pub decreases-rest : goal.decreases-rest
decreases-rest g l = length l.out - l.at
