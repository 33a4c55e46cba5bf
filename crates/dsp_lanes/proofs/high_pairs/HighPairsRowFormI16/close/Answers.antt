use Rattle.dsp_lanes.proofs.LaneClosings.{stored}
use Rattle.dsp_lanes.proofs.HighRows.{closes_high, length-shifted, wholes_fit}
use Rattle.dsp_lanes.proofs.high_pairs.HighPairsRowFormI16.close.Goals as goal

pub overflow_cast-out : goal.overflow_cast-out
overflow_cast-out c =
    let sums = c.args.sums in
    let fit = c.requires.fit.1 in
    (closes_high c.shifted.result c.shifted-2.result _ _
    (length-shifted sums.even.low sums.even.high c.shifted.result fit.0 c.shifted.ensures.sums)
    (length-shifted sums.odd.low sums.odd.high c.shifted-2.result fit.1 c.shifted-2.ensures.sums)
    c.shifted.ensures.fit c.shifted-2.ensures.fit c.shifted.ensures.sums c.shifted-2.ensures.sums
    (wholes_fit _ sums.even.low sums.even.high fit.0.few fit.0.parts)
    (wholes_fit _ sums.odd.low sums.odd.high fit.1.few fit.1.parts)).0

pub returns : goal.returns
returns c =
    let sums = c.args.sums in
    let fit = c.requires.fit.1 in
    stored c.args.at c.args.out.now _ _
    (closes_high c.shifted.result c.shifted-2.result _ _
    (length-shifted sums.even.low sums.even.high c.shifted.result fit.0 c.shifted.ensures.sums)
    (length-shifted sums.odd.low sums.odd.high c.shifted-2.result fit.1 c.shifted-2.ensures.sums)
    c.shifted.ensures.fit c.shifted-2.ensures.fit c.shifted.ensures.sums c.shifted-2.ensures.sums
    (wholes_fit _ sums.even.low sums.even.high fit.0.few fit.0.parts)
    (wholes_fit _ sums.odd.low sums.odd.high fit.1.few fit.1.parts)).1
