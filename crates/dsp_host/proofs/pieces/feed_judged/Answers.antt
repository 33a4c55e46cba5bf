use Rattle.std.proofs.Common.{rules}
use Rattle.dsp_host.proofs.pieces.feed_judged.Goals as goal

pub returns-in-Err-clause-err : goal.returns-in-Err-clause-err
returns-in-Err-clause-err g c = search rules
