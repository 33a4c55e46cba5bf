use Rattle.std.proofs.Common.{arith, w32, w64}
use Rattle.dsp_lanes.proofs.LaneOps.{group_asked}
use Rattle.dsp_lanes.proofs.LaneSums.{products_added}
use Rattle.dsp_lanes.proofs.q31.I32LaneKernels.add_products.Goals as goal

pub overflow_cast-t : goal.overflow_cast-t
overflow_cast-t g c =
    group_asked w32 w64 (omega arith) c.args.at g.row.L c.args.taps.now c.q31_fit.ensures c.requires.taps

pub overflow_cast-x : goal.overflow_cast-x
overflow_cast-x g c =
    group_asked w32 w64 (omega arith) c.args.at g.row.L c.args.window.now c.q31_fit-2.ensures c.requires.window

pub returns-clause-sums : goal.returns-clause-sums
returns-clause-sums g c = (products_added w32 w64 (omega arith) (omega arith) c.args.at g.row.L c.args.sums
    c.args.taps.now c.args.window.now c.requires.fit c.q31_fit.ensures c.q31_fit-2.ensures c.requires.taps
    c.requires.window).0

pub returns-clause-fit : goal.returns-clause-fit
returns-clause-fit g c = (products_added w32 w64 (omega arith) (omega arith) c.args.at g.row.L c.args.sums
    c.args.taps.now c.args.window.now c.requires.fit c.q31_fit.ensures c.q31_fit-2.ensures c.requires.taps
    c.requires.window).1
