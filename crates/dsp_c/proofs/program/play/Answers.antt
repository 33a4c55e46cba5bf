use Rattle.std.proofs.Common.{rules}
use Rattle.dsp_c.proofs.program.play.Goals as goal

pub returns-clause-ok : goal.returns-clause-ok
returns-clause-ok g c = search rules
