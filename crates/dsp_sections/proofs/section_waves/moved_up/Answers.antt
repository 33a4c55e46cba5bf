use Rattle.dsp_sections.proofs.FourSections.{up_read}
use Rattle.dsp_sections.proofs.section_waves.moved_up.Goals as goal

pub returns-clause-value : goal.returns-clause-value
returns-clause-value c = up_read c.args.first c.args.lanes c.ranges.first c.requires.four c.requires.fit
