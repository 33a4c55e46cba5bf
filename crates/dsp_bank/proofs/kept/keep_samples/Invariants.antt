use Rattle.std.proofs.Common.{◌≡◌, map, take}
use Rattle.dsp_bank.proofs.kept.keep_samples.Given as goal

abbrev pub invariant-loop-k : goal.invariant-loop-k
invariant-loop-k g l = take l.k l.out ≡ map g.T.Sample.number (take l.k l.samples)
