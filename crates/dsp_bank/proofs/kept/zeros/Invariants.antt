use Rattle.std.proofs.Common.{◌≡◌, length, map, replicate, pos}
use Rattle.dsp_bank.proofs.kept.zeros.Given as goal

abbrev pub invariant-loop : goal.invariant-loop
invariant-loop g l = record {
  zeros : map g.T.Sample.number l.zeros.items ≡ replicate l.counter (pos 0);
  size : length l.zeros.items ≡ l.counter;
}
