use Rattle.std.proofs.Common.{◌+◌, ◌≤◌, take}
use Rattle.dsp_channelwise.proofs.Scattered.{Scattered}
use Rattle.dsp_channelwise.proofs.correlation.scatter.Given as goal

-- the first products are added
abbrev pub invariant-loop-j : goal.invariant-loop-j
invariant-loop-j g l = record {
  scattered : Scattered l.fn.sums l.sums l.fn.at l.fn.a (take l.j l.fn.b);
  products : l.steps.multiplies ≤ l.fn.steps.multiplies + l.j;
}
