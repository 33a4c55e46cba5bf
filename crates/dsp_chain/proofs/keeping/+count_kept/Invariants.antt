use Rattle.std.proofs.Common.{length}
use Rattle.dsp_chain.proofs.keeping.+count_kept.Given as goal

abbrev pub decreases-count_kept : goal.decreases-count_kept
decreases-count_kept g l = length l.links.now
