use Rattle.std.proofs.Common.{arith, w32, w64}
use Rattle.std.proofs.lemmas.Simd.{shifts_fit_splat}
use Rattle.dsp_lanes.proofs.LaneOps.{group_asked}
use Rattle.dsp_lanes.proofs.LaneClosings.{stored}
use Rattle.dsp_lanes.proofs.HighProducts.{mult_31}
use Rattle.dsp_lanes.proofs.q31.I32LaneKernels.mult_group.Goals as goal

pub overflow_cast-x : goal.overflow_cast-x
overflow_cast-x g c = group_asked w32 w64 (omega arith) c.args.at g.row.L c.args.a.now c.q31_fit.ensures c.requires.left

pub overflow_cast-y : goal.overflow_cast-y
overflow_cast-y g c =
    group_asked w32 w64 (omega arith) c.args.at g.row.L c.args.b.now c.q31_fit-2.ensures c.requires.right

pub overflow_shr-high : goal.overflow_shr-high
overflow_shr-high g c = shifts_fit_splat 64 _ g.row.L 32 (omega arith)

pub overflow_cast-high : goal.overflow_cast-high
overflow_cast-high g c = (mult_31 c.args.at g.row.L c.args.a.now c.args.b.now c.q31_fit.ensures c.q31_fit-2.ensures
    c.requires.left c.requires.right).0

pub returns : goal.returns
returns g c = stored c.args.at c.args.out.now _ _ (mult_31 c.args.at g.row.L c.args.a.now c.args.b.now
    c.q31_fit.ensures c.q31_fit-2.ensures c.requires.left c.requires.right).1
