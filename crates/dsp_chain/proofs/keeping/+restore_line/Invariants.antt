use Rattle.std.proofs.Common.{length}
use Rattle.dsp_chain.proofs.keeping.+restore_line.Given as goal

abbrev pub decreases-restore_line : goal.decreases-restore_line
decreases-restore_line g l = length l.links.now
