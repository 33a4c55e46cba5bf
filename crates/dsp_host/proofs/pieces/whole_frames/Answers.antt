use Rattle.std.proofs.Common.{rules}
use Rattle.dsp_host.proofs.pieces.whole_frames.Goals as goal

pub returns-then-count-frame-clause-some : goal.returns-then-count-frame-clause-some
returns-then-count-frame-clause-some c = search rules
