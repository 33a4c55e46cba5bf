use Rattle.std.proofs.Common.{length}
use Rattle.dsp_chain.proofs.line.+count_measures.Given as goal

abbrev pub decreases-count_measures : goal.decreases-count_measures
decreases-count_measures g l = length l.links.now
