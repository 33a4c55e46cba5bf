use Rattle.dsp_lanes.proofs.Fractions.{sum_lanes_cast, sum_lanes_read}
use Rattle.dsp_sections.proofs.reflections.saturated_sums.Goals as goal

pub overflow_cast-result-3 : goal.overflow_cast-result-3
overflow_cast-result-3 c = sum_lanes_cast c.args.x c.args.y c.requires.long_x c.requires.long_y c.requires.fit_x
    c.requires.fit_y

pub returns-clause-value : goal.returns-clause-value
returns-clause-value c = (sum_lanes_read c.args.x c.args.y c.requires.long_x c.requires.long_y c.requires.fit_x
    c.requires.fit_y).0

pub returns-clause-fit : goal.returns-clause-fit
returns-clause-fit c = (sum_lanes_read c.args.x c.args.y c.requires.long_x c.requires.long_y c.requires.fit_x
    c.requires.fit_y).1
