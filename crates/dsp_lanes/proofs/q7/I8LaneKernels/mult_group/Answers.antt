use Rattle.std.proofs.Common.{arith, w8, w16}
use Rattle.std.proofs.lemmas.Simd.{shifts_fit_splat}
use Rattle.dsp_lanes.proofs.LaneOps.{group_asked}
use Rattle.dsp_lanes.proofs.LaneClosings.{mult_closes, stored}
use Rattle.dsp_lanes.proofs.q7.I8LaneKernels.mult_group.Goals as goal

pub overflow_cast-x : goal.overflow_cast-x
overflow_cast-x g c = group_asked w8 w16 (omega arith) c.args.at g.row.L c.args.a.now c.q7_fit.ensures c.requires.left

pub overflow_cast-y : goal.overflow_cast-y
overflow_cast-y g c =
    group_asked w8 w16 (omega arith) c.args.at g.row.L c.args.b.now c.q7_fit-2.ensures c.requires.right

pub overflow_shr-out : goal.overflow_shr-out
overflow_shr-out g c = shifts_fit_splat 16 _ g.row.L 7 (omega arith)

pub overflow_cast-out : goal.overflow_cast-out
overflow_cast-out g c = (mult_closes w8 w16 (omega arith) (omega arith) c.args.at g.row.L 7 c.args.a.now c.args.b.now
    c.q7_fit.ensures c.q7_fit-2.ensures c.requires.left c.requires.right).0

pub returns : goal.returns
returns g c =
    stored c.args.at c.args.out.now _ _
    (mult_closes w8 w16 (omega arith) (omega arith) c.args.at g.row.L 7 c.args.a.now c.args.b.now c.q7_fit.ensures
    c.q7_fit-2.ensures c.requires.left c.requires.right).1
