use Rattle.std.proofs.Common.{length}
use Rattle.dsp_chain.proofs.line.+find_measure.Given as goal

abbrev pub decreases-find_measure : goal.decreases-find_measure
decreases-find_measure g l = length l.links.now
