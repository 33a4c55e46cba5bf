use Rattle.std.proofs.Common.{rules}
use Rattle.dsp_host.proofs.ongoing.Ongoing.push.Goals as goal

pub returns-then-samples-clause-err : goal.returns-then-samples-clause-err
returns-then-samples-clause-err g c = search rules
