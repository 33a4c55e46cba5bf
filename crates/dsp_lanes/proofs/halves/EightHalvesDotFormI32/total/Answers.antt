use Rattle.std.proofs.Common.{◌∙◌, ap, arith, w64}
use Rattle.std.proofs.lemmas.Int.{ints}
use lib.Lanes.{fold_l}
use mir.Val.{to_z}
use Rattle.dsp_lanes.proofs.LaneOps.{added}
use Rattle.dsp_lanes.proofs.LaneSums.{plus_in, raised, raised_fit, lanes_sum}
use Rattle.dsp_lanes.proofs.LaneRows.{list_sum-wraps}
use Rattle.dsp_lanes.proofs.halves.EightHalvesDotFormI32.total.Goals as goal

pub returns : goal.returns
returns c =
    let even = c.args.sums.even in
    let odd = c.args.sums.odd in
    let fit = c.requires in
    ap (λ l. to_z w64 (fold_l (plus_in w64) 0 l)) (added w64 even odd fit.0 fit.1)
    ∙ lanes_sum w64 (raised w64 even odd) (omega (arith, ints)) (raised_fit w64 even odd)
    ∙ list_sum-wraps w64 even odd (omega arith)
