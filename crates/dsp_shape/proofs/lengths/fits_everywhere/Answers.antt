use Rattle.std.proofs.Common.{arith}
use Rattle.dsp_shape.proofs.Placed.{rest_from}
use Rattle.dsp_shape.proofs.Counts.{fits_on}
use Rattle.dsp_shape.proofs.lengths.fits_everywhere.Goals as goal

pub steady-frames-requires-clause-group : goal.steady-frames-requires-clause-group
steady-frames-requires-clause-group c =
    let rest = rest_from _ _ _ c.loop-block-test.true c.block-item.is in
    let l = c.loop-block in
    let on = fits_on l.flow l.frames _ _ _ _ rest l.invariant.placed (rw c.from.ensures at c.if-frames-from.false)
    l.invariant.same in
    rw c.of.ensures on.group

pub steady-frames-requires-clause-few : goal.steady-frames-requires-clause-few
steady-frames-requires-clause-few c =
    let rest = rest_from _ _ _ c.loop-block-test.true c.block-item.is in
    let l = c.loop-block in
    let on = fits_on l.flow l.frames _ _ _ _ rest l.invariant.placed (rw c.from.ensures at c.if-frames-from.false)
    l.invariant.same in
    rw c.of.ensures (omega (arith, on.few))

pub after-flow-requires : goal.after-flow-requires
after-flow-requires c =
    let rest = rest_from _ _ _ c.loop-block-test.true c.block-item.is in
    let l = c.loop-block in
    let on = fits_on l.flow l.frames _ _ _ _ rest l.invariant.placed (rw c.from.ensures at c.if-frames-from.false)
    l.invariant.same in
    on.channels

pub loop-block-preserved : goal.loop-block-preserved
loop-block-preserved c =
    let rest = rest_from _ _ _ c.loop-block-test.true c.block-item.is in
    let l = c.loop-block in
    let on = fits_on l.flow l.frames _ _ _ _ rest l.invariant.placed (rw c.from.ensures at c.if-frames-from.false)
    l.invariant.same in
    rw (c.after-flow.ensures, c.steady-frames.ensures, c.of.ensures) (record
    { same = on.same; placed = on.placed; few = on.few })
