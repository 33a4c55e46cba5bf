use Rattle.std.proofs.Common.{arith}
use Rattle.std.proofs.lemmas.Grind.{common_steps}
use Rattle.dsp_conv.proofs.extent.Extent.given.Goals as goal

pub returns-in-Within-clause-end : goal.returns-in-Within-clause-end
returns-in-Within-clause-end c = grind (arith, common_steps)
