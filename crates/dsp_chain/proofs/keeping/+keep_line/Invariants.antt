use Rattle.std.proofs.Common.{length}
use Rattle.dsp_chain.proofs.keeping.+keep_line.Given as goal

abbrev pub decreases-keep_line : goal.decreases-keep_line
decreases-keep_line g l = length l.links.now
