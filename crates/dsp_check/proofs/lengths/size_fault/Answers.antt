use Rattle.std.proofs.Common.{◌+◌, drop, arith}
use Rattle.dsp_defs.specs.Sizes.{size_at}
use Rattle.dsp_shape.proofs.FrameRules.{whole-rule}
use Rattle.dsp_shape.proofs.Placed.{rest_from}
use Rattle.dsp_check.proofs.PlaceSizes.{SizeStep, size-step}
use Rattle.dsp_check.proofs.lengths.size_fault.Goals as goal
use Rattle.dsp_check.proofs.lengths.size_fault.Goals.{Else-samples}

-- what the block here leads to
here : (c : Else-samples) → SizeStep (size_at c.args.script.now.input.channels c.args.script.now.blocks c.args.n)
    c.loop-block.flow c.block-item.result (drop (c.loop-block.block-index + 1) c.as_slice-block-items.result.now)
    c.loop-block.n
here c = size-step
    (rw (rest_from _ _ _ c.loop-block-test.true c.block-item.is) at c.loop-block.invariant.sizes)
    (rw c.from.ensures at c.if-samples.false)

pub whole-n-requires : goal.whole-n-requires
whole-n-requires c =
    let step = here (goal.at.whole-n-requires c).Else-samples in
    rw c.of.ensures
    (record { rule = step.rule; taken = omega arith; given = rw (whole-rule _ _) (omega (arith, step.few)) })

pub loop-block-preserved : goal.loop-block-preserved
loop-block-preserved c =
    let step = here (goal.at.loop-block-preserved c).Else-samples in
    rw (c.after-flow.ensures, c.whole-n.ensures, c.of.ensures, whole-rule c.block-item.result c.loop-block.n)
    (record { sizes = step.next; few = step.few })
