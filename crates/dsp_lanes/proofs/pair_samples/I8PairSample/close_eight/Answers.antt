use Rattle.std.proofs.Common.{arith, refl, w8, w32}
use Rattle.dsp_lanes.proofs.LaneOps.{bits_of}
use Rattle.dsp_lanes.proofs.LaneClosings.{shift_saturates, stored}
use Rattle.dsp_lanes.proofs.pair_samples.I8PairSample.close_eight.Goals as goal

pub overflow_cast-out : goal.overflow_cast-out
overflow_cast-out c = (shift_saturates w32 w8 (omega arith) 8 7 (bits_of w32 c.args.sums) c.args.sums refl
    c.requires.long c.requires.fit).0

pub returns : goal.returns
returns c = stored c.args.at c.args.out.now _ _ (shift_saturates w32 w8 (omega arith) 8 7 (bits_of w32 c.args.sums)
    c.args.sums refl c.requires.long c.requires.fit).1
