use Rattle.std.proofs.Common.{◌≡◌, map, take}
use Rattle.dsp_filter.proofs.samples.samples_of.Given as goal

-- the samples so far are the numbers so far
abbrev pub invariant-loop-number : goal.invariant-loop-number
invariant-loop-number g l = map g.T.Sample.number l.samples.items ≡ take l.number-index l.numbers
