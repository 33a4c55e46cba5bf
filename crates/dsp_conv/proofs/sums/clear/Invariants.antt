use Rattle.std.proofs.Common.{◌≡◌, map, take, pos}
use Rattle.dsp_defs.specs.Signal.{values}
use Rattle.dsp_conv.proofs.sums.clear.Given as goal

-- zeros so far
abbrev pub invariant-loop-value : goal.invariant-loop-value
invariant-loop-value g l = map g.T.Sample.number (take l.value-index l.out) ≡ values l.value-index (λ _. pos 0)
