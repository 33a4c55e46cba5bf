use Rattle.std.proofs.Common.{rules}
use Rattle.dsp_host.proofs.ongoing.Ongoing.save.Goals as goal

pub returns-then-wanted-numbers-clause-err : goal.returns-then-wanted-numbers-clause-err
returns-then-wanted-numbers-clause-err g c = search rules
