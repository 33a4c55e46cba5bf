use Rattle.std.proofs.Common.{◌≡◌, ◌+◌, ◌*◌, length, map, take}
use Rattle.dsp_defs.specs.Formats.{close}
use Rattle.dsp_defs.specs.Signal.{values}
use Rattle.dsp_defs.specs.Sums.{convolution_at}
use Rattle.dsp_conv.specs.Sums.{RisesAtMost}
use Rattle.dsp_conv.proofs.sums.convolution_edge.Given as goal

-- the values so far are written, and their products counted
abbrev pub invariant-loop-i : goal.invariant-loop-i
invariant-loop-i g l = record {
  values : map g.T.Sample.number (take l.i l.out) ≡ values l.i
      (λ i. close g.T.Sample.format (convolution_at (map g.T.Sample.number l.b) (map g.T.Sample.number l.a)
      (l.first + i)));
  steps : RisesAtMost l.initial.steps l.steps (l.i * length l.b);
}
