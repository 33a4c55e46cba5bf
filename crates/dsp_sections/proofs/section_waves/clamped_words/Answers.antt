use Rattle.dsp_sections.proofs.FourSections.{clamped_lows, clamped_words}
use Rattle.dsp_sections.proofs.section_waves.clamped_words.Goals as goal

pub returns-clause-value : goal.returns-clause-value
returns-clause-value c = clamped_lows c.args.words c.requires.four c.requires.fit

pub returns-clause-fit : goal.returns-clause-fit
returns-clause-fit c = clamped_words c.args.words c.requires.four c.requires.fit
