use Rattle.dsp_lanes.proofs.narrow_dots.NarrowDotsDotFormI16.no_sums.Goals as goal
use Rattle.dsp_lanes.proofs.SumLemmas.{list_sum-zeros}

pub returns-clause-sums : goal.returns-clause-sums
returns-clause-sums c = list_sum-zeros 4
