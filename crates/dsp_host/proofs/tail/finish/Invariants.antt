use Rattle.std.proofs.Common.{◌-◌, length}
use Rattle.dsp_host.proofs.Tails.{TailSoFar}
use Rattle.dsp_host.proofs.tail.finish.Given as goal

abbrev pub invariant-giving : goal.invariant-giving
invariant-giving g l = TailSoFar l.fn.session l.session l.given l.fn.out l.out l.fn.steps l.steps

abbrev pub decreases-giving : goal.decreases-giving
decreases-giving g l = length l.fn.out - l.given
