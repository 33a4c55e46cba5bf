use Rattle.std.proofs.Common.{arith, ap, w16, w32}
use lib.Lanes.{chunk, put_chunk}
use Rattle.dsp_lanes.proofs.LaneOps.{group_fits, group_asked, splat_asked}
use Rattle.dsp_lanes.proofs.LaneSums.{multiples_added}
use Rattle.dsp_lanes.proofs.q15.I16LaneKernels.delay_group.Goals as goal

pub overflow_cast-t : goal.overflow_cast-t
overflow_cast-t g c = splat_asked w16 w32 (omega arith) g.row.L c.args.tap c.ranges.tap

pub overflow_cast-x : goal.overflow_cast-x
overflow_cast-x g c =
    group_asked w16 w32 (omega arith) c.args.at g.row.L c.args.window.now c.q15_fit.ensures c.requires.window

pub returns : goal.returns
returns g c =
    let at = c.args.at in
    let n = g.row.L in
    let sums = c.args.sums.now in
    let window = c.args.window.now in
    ap (put_chunk at sums) (multiples_added w16 w32 (omega arith) (omega arith) at n (chunk at n sums) c.args.tap window
    (group_fits w32 at n sums c.q31_fit.ensures c.requires.room) c.ranges.tap c.q15_fit.ensures c.requires.window).0
