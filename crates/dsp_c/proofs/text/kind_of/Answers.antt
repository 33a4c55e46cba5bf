use Rattle.std.proofs.Common.{rules}
use Rattle.dsp_c.proofs.text.kind_of.Goals as goal

pub returns-in-5 : goal.returns-in-5
returns-in-5 c = search rules
