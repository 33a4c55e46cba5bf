use Rattle.dsp_lanes.proofs.HighSums.{low_raised, high_raised}
use Rattle.dsp_lanes.proofs.high_sums.raise.Goals as goal

pub returns-clause-low : goal.returns-clause-low
returns-clause-low c = low_raised c.args.sums.low c.args.more c.requires.low c.requires.more

pub returns-clause-high : goal.returns-clause-high
returns-clause-high c = high_raised c.args.sums.high c.args.more c.requires.high c.requires.more c.requires.long
