use Rattle.std.proofs.Common.{◌≡◌, ◌+◌, length, map, take}
use Rattle.dsp_defs.specs.Formats.{close}
use Rattle.dsp_defs.specs.Signal.{values}
use Rattle.dsp_conv.specs.Sums.{correlation_at, CorrelationRises}
use Rattle.dsp_conv.proofs.sums.correlation_edge.Given as goal

-- the values so far are written, and their products counted
abbrev pub invariant-loop-i : goal.invariant-loop-i
invariant-loop-i g l = record {
  values : map g.T.Sample.number (take l.i l.out) ≡ values l.i
      (λ i. close g.T.Sample.format (correlation_at (map g.T.Sample.number l.b) (map g.T.Sample.number l.a)
      (l.first + i)));
  steps : CorrelationRises (length l.a) (length l.b) l.first (l.first + l.i) l.initial.steps l.steps;
}
