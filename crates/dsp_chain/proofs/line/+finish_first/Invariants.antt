use Rattle.dsp_unit.specs.Line.{first_tail}
use Rattle.dsp_chain.proofs.line.+finish_first.Given as goal

abbrev pub decreases-finish_first : goal.decreases-finish_first
decreases-finish_first g l = first_tail l.links.now
