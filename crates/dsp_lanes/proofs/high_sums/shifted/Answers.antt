use Rattle.dsp_lanes.proofs.HighSums.{shifted_read}
use Rattle.dsp_lanes.proofs.high_sums.shifted.Goals as goal

pub returns-clause-sums : goal.returns-clause-sums
returns-clause-sums c = (shifted_read c.requires.0 c.args.sums.low c.args.sums.high c.requires.1).0

pub returns-clause-fit : goal.returns-clause-fit
returns-clause-fit c = (shifted_read c.requires.0 c.args.sums.low c.args.sums.high c.requires.1).1
