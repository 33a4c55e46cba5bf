use Rattle.std.proofs.Common.{ap, arith, refl, w16, w32}
use lib.Lanes.{put_chunk}
use Rattle.dsp_lanes.proofs.LaneOps.{bits_of}
use Rattle.dsp_lanes.proofs.LaneClosings.{shift_saturates}
use Rattle.dsp_lanes.proofs.matrix_rows.close_four.Goals as goal

pub overflow_cast-out : goal.overflow_cast-out
overflow_cast-out c = (shift_saturates w32 w16 (omega arith) 4 15 (bits_of w32 c.args.sums) c.args.sums refl
    c.requires.long c.requires.fit).0

pub returns : goal.returns
returns c = ap (put_chunk c.args.at c.args.out.now) (shift_saturates w32 w16 (omega arith) 4 15
    (bits_of w32 c.args.sums) c.args.sums refl c.requires.long c.requires.fit).1
