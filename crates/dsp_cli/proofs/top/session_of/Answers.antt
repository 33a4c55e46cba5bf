use Rattle.std.proofs.Common.{rules}
use Rattle.dsp_cli.proofs.top.session_of.Goals as goal

pub returns-in-true : goal.returns-in-true
returns-in-true g c = search rules
