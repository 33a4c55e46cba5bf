use Rattle.std.proofs.Common.{length}
use Rattle.dsp_chain.proofs.line.+feed_line.Given as goal

abbrev pub decreases-feed_line : goal.decreases-feed_line
decreases-feed_line g l = length l.links.now
