use Rattle.std.proofs.Common.{◌≡◌, ◌*◌, length, map}
use Rattle.dsp_defs.specs.Numbers.{wrap, w32}
use Rattle.dsp_defs.specs.Signal.{values}
use Rattle.dsp_lanes.specs.Turns.{RisesWithin, lane_turns}
use Rattle.dsp_fir.specs.Delays.{delayed_sum}
use Rattle.dsp_fir.proofs.delayed_rows.add_taps.Given as goal

-- the terms of the taps so far are added and counted
abbrev pub invariant-loop-k : goal.invariant-loop-k
invariant-loop-k g l = record {
  summed : l.sums ≡ values (length l.initial.sums)
      (λ i. wrap w32 (delayed_sum g.T.Sample.format (map g.T.Sample.number l.taps) l.delays l.past
      (map g.T.Sample.number l.window) l.k i));
  counted : RisesWithin l.initial.steps l.steps (l.k * length l.initial.sums)
      (l.k * lane_turns g.row.L (length l.initial.sums));
}
