use Rattle.std.proofs.Common.{length}
use Rattle.dsp_chain.proofs.keeping.+count_line.Given as goal

abbrev pub decreases-count_line : goal.decreases-count_line
decreases-count_line g l = length l.links.now
