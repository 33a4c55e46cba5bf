use Rattle.dsp_lanes.proofs.Fractions.{high_lanes_cast, high_lanes_read}
use Rattle.dsp_sections.proofs.reflections.high_words.Goals as goal

pub overflow_cast-result : goal.overflow_cast-result
overflow_cast-result g c = high_lanes_cast c.args.samples c.args.factor c.requires.long c.requires.fit c.ranges.factor

pub returns-clause-value : goal.returns-clause-value
returns-clause-value g c = (high_lanes_read c.args.samples c.args.factor c.requires.long c.requires.fit
    c.ranges.factor).0

pub returns-clause-fit : goal.returns-clause-fit
returns-clause-fit g c = (high_lanes_read c.args.samples c.args.factor c.requires.long c.requires.fit c.ranges.factor).1
