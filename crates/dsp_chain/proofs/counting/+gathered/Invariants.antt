use Rattle.std.proofs.Common.{length}
use Rattle.dsp_chain.proofs.counting.+gathered.Given as goal

abbrev pub decreases-gathered : goal.decreases-gathered
decreases-gathered g l = length l.links.now
