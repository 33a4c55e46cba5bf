use Rattle.std.proofs.Common.{rules}
use Rattle.dsp_c.proofs.plan.plan_of.Goals as goal

pub returns : goal.returns
returns g c = search rules
