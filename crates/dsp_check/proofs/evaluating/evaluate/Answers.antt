use Rattle.dsp_shape.proofs.Placed.{rest_from}
use Rattle.dsp_check.proofs.Evaluations.{goes-on}
use Rattle.dsp_check.proofs.evaluating.evaluate.Goals as goal

pub loop-block-preserved : goal.loop-block-preserved
loop-block-preserved g c =
    let rest = rest_from _ _ _ c.loop-block-test.true c.block-item.is in
    rw c.after-flow.ensures
    (goes-on c.whole.new.steps.multiplies (rw rest at c.loop-block.invariant) c.in_ok-y-2.ensures.given
    c.in_ok-y-2.ensures.products)
