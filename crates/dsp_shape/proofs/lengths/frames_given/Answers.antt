use Rattle.std.proofs.Common.{◌∷◌, ◌+◌, drop, refl}
use Rattle.dsp_defs.specs.Grammar.{input_flow}
use Rattle.dsp_shape.proofs.Placed.{MayStand, rest_from, group_of_first, stand_behind, placed_sound}
use Rattle.dsp_shape.proofs.Counts.{few_first, frames_go_on}
use Rattle.dsp_shape.proofs.FewFrames.{few_sound}
use Rattle.dsp_shape.proofs.lengths.frames_given.Goals as goal

pub loop-block-init : goal.loop-block-init
loop-block-init c =
    let s = c.args.script.now in
    rw c.as_slice-block-items.ensures (record {
      same = refl;
      placed = (input_flow s.input, placed_sound s c.requires.sound);
      few = few_sound s c.args.frames c.requires.sound c.requires.legal c.requires.taken;
    })

pub given_frames-frames-requires-clause-group : goal.given_frames-frames-requires-clause-group
given_frames-frames-requires-clause-group c =
    let more = drop (c.loop-block.block-index + 1) c.as_slice-block-items.result.now in
    let rest = rest_from c.as_slice-block-items.result.now c.loop-block.block-index c.block-item.result
    c.loop-block-test.true c.block-item.is in
    let placed : MayStand (c.block-item.result ∷ more) = rw rest at c.loop-block.invariant.placed in
    group_of_first c.block-item.result more placed

pub given_frames-frames-requires-clause-few : goal.given_frames-frames-requires-clause-few
given_frames-frames-requires-clause-few c =
    let rest = rest_from c.as_slice-block-items.result.now c.loop-block.block-index c.block-item.result
    c.loop-block-test.true c.block-item.is in
    (few_first c.loop-block.frames c.block-item.result _ _ rest c.loop-block.invariant.few).0

pub loop-block-preserved : goal.loop-block-preserved
loop-block-preserved c =
    let b = c.block-item.result in
    let more = drop (c.loop-block.block-index + 1) c.as_slice-block-items.result.now in
    let rest = rest_from c.as_slice-block-items.result.now c.loop-block.block-index b c.loop-block-test.true
    c.block-item.is in
    let placed : MayStand (b ∷ more) = rw rest at c.loop-block.invariant.placed in
    rw c.given_frames-frames.ensures (record {
      same = frames_go_on c.loop-block.frames b _ more _ rest c.loop-block.invariant.same;
      placed = stand_behind b more placed;
      few = (few_first c.loop-block.frames b _ more rest c.loop-block.invariant.few).1;
    })
