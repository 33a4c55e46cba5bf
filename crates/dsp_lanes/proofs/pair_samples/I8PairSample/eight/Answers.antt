use Rattle.std.proofs.Common.{arith, w8}
use Rattle.dsp_lanes.proofs.PairSums.{eight_read}
use Rattle.dsp_lanes.proofs.pair_samples.I8PairSample.eight.Goals as goal

pub overflow_cast-result : goal.overflow_cast-result
overflow_cast-result c = (eight_read w8 (omega arith) c.args.at c.args.samples.now c.q7_fit.ensures c.requires).0

pub returns-clause-values : goal.returns-clause-values
returns-clause-values c = (eight_read w8 (omega arith) c.args.at c.args.samples.now c.q7_fit.ensures c.requires).1

pub returns-clause-fit : goal.returns-clause-fit
returns-clause-fit c = (eight_read w8 (omega arith) c.args.at c.args.samples.now c.q7_fit.ensures c.requires).2
