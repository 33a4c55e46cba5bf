use Rattle.std.proofs.Common.{arith}
use Rattle.std.proofs.lemmas.Simd.{shifts_fit_splat}
use Rattle.dsp_lanes.proofs.LaneClosings.{stored}
use Rattle.dsp_lanes.proofs.HighProducts.{closes_31}
use Rattle.dsp_lanes.proofs.q31.I32LaneKernels.close_group.Goals as goal

pub overflow_shr-high : goal.overflow_shr-high
overflow_shr-high g c = shifts_fit_splat 64 _ g.row.L 31 (omega arith)

pub overflow_shl-out : goal.overflow_shl-out
overflow_shl-out g c = shifts_fit_splat 64 _ g.row.L 32 (omega arith)

pub overflow_shr-out : goal.overflow_shr-out
overflow_shr-out g c = shifts_fit_splat 64 _ g.row.L 32 (omega arith)

pub overflow_cast-out : goal.overflow_cast-out
overflow_cast-out g c = (closes_31 g.row.L c.args.sums (omega arith) c.requires.fit).0

pub returns : goal.returns
returns g c = stored c.args.at c.args.out.now _ _ (closes_31 g.row.L c.args.sums (omega arith) c.requires.fit).1
