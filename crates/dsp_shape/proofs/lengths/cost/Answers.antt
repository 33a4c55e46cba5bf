use Rattle.std.proofs.Common.{arith}
use Rattle.dsp_shape.proofs.Placed.{rest_from, placed_sound}
use Rattle.dsp_shape.proofs.Counts.{few_first, cost_sound, cost_goes_on}
use Rattle.dsp_shape.proofs.FewFrames.{few_sound}
use Rattle.dsp_shape.proofs.lengths.cost.Goals as goal

pub loop-block-init : goal.loop-block-init
loop-block-init c =
    let s = c.args.script.now in
    rw (c.as_slice-block-items.ensures, c.input_flow-flow.ensures) (record {
      same = omega arith;
      placed = placed_sound s c.requires.sound;
      few = few_sound s c.args.frames c.requires.sound c.requires.legal c.requires.taken;
    })

pub given_frames-given-requires-clause-few : goal.given_frames-given-requires-clause-few
given_frames-given-requires-clause-few c =
    let rest = rest_from _ _ _ c.loop-block-test.true c.block-item.is in
    (few_first c.loop-block.frames c.block-item.result _ _ rest c.loop-block.invariant.few).0

pub block_cost-total-requires-clause-few : goal.block_cost-total-requires-clause-few
block_cost-total-requires-clause-few c =
    let items = c.as_slice-block-items.result.now in
    let rest = rest_from items c.loop-block.block-index c.block-item.result c.loop-block-test.true c.block-item.is in
    let more = cost_goes_on c.loop-block.flow.format c.loop-block.flow.channels c.loop-block.frames c.loop-block.total
    c.block-item.result _ _ _ rest c.loop-block.invariant.same in
    rw c.given_frames-given.ensures (omega (
      arith,
      more,
      cost_sound c.args.script.now c.args.frames c.requires.sound c.requires.legal c.requires.taken,
    ))

pub overflow_add-total : goal.overflow_add-total
overflow_add-total c =
    let items = c.as_slice-block-items.result.now in
    let rest = rest_from items c.loop-block.block-index c.block-item.result c.loop-block-test.true c.block-item.is in
    let more = cost_goes_on c.loop-block.flow.format c.loop-block.flow.channels c.loop-block.frames c.loop-block.total
    c.block-item.result _ _ _ rest c.loop-block.invariant.same in
    let whole = cost_sound c.args.script.now c.args.frames c.requires.sound c.requires.legal c.requires.taken in
    rw (c.block_cost-total.ensures, c.given_frames-given.ensures) (omega (arith, more, whole))
