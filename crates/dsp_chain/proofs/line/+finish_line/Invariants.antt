use Rattle.std.proofs.Common.{length}
use Rattle.dsp_chain.proofs.line.+finish_line.Given as goal

abbrev pub decreases-finish_line : goal.decreases-finish_line
decreases-finish_line g l = length l.links.now
