use Rattle.std.proofs.Common.{arith, length, map}
use Rattle.dsp_lanes.proofs.DotSums.{row-group}
use Rattle.dsp_lanes.proofs.four_dots.add_group.Goals as goal

pub returns-clause-sums : goal.returns-clause-sums
returns-clause-sums g c =
    let T = g.T.Sample in
    row-group g.F.DotForm.width T.number (map T.number c.args.taps.now) c.args.window.now c.args.start
    (length c.args.taps.now) c.args.at g.F.DotForm.size _ _ (omega arith) c.add_products.ensures.sums
