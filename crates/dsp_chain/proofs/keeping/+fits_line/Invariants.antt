use Rattle.std.proofs.Common.{length}
use Rattle.dsp_chain.proofs.keeping.+fits_line.Given as goal

abbrev pub decreases-fits_line : goal.decreases-fits_line
decreases-fits_line g l = length l.links.now
