use Rattle.dsp_sections.proofs.FourSections.{low_products_read}
use Rattle.dsp_sections.proofs.section_waves.low_products.Goals as goal

pub returns-clause-value : goal.returns-clause-value
returns-clause-value c = (low_products_read c.args.a c.args.b c.requires.four_a c.requires.four_b c.requires.fit_a
    c.requires.fit_b).0

pub returns-clause-fit : goal.returns-clause-fit
returns-clause-fit c = (low_products_read c.args.a c.args.b c.requires.four_a c.requires.four_b c.requires.fit_a
    c.requires.fit_b).1
