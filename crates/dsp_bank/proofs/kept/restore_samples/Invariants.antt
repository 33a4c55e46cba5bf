use Rattle.std.proofs.Common.{◌≡◌, map, take}
use Rattle.dsp_bank.proofs.kept.restore_samples.Given as goal

abbrev pub invariant-loop-k : goal.invariant-loop-k
invariant-loop-k g l = map g.T.Sample.number (take l.k l.samples) ≡ take l.k l.numbers
