use Rattle.dsp_sections.proofs.LadderWords.{fractions_are}
use Rattle.dsp_sections.proofs.ladder_lanes.I32LadderLanes.reflected.Goals as goal

pub overflow_cast-result : goal.overflow_cast-result
overflow_cast-result g c = (fractions_are c.args.k c.args.values c.requires.fit_k c.requires.fit_values).0

pub returns-clause-value : goal.returns-clause-value
returns-clause-value g c = (fractions_are c.args.k c.args.values c.requires.fit_k c.requires.fit_values).1

pub returns-clause-fit : goal.returns-clause-fit
returns-clause-fit g c = (fractions_are c.args.k c.args.values c.requires.fit_k c.requires.fit_values).2
