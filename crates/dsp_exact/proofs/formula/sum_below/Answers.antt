use Rattle.std.proofs.Common.{arith, to_z}
use Rattle.std.specs.Int.{w128}
use Rattle.dsp_exact.proofs.Steps.{sum-more}
use Rattle.dsp_exact.proofs.formula.sum_below.Goals as goal

pub loop-k-preserved : goal.loop-k-preserved
loop-k-preserved g c =
    let so_far = c.loop-k.invariant in
    let more = sum-more (g.T.Terms.term c.args.terms.now) c.loop-k.k (to_z w128 c.loop-k.sum-bits) c.term-sum.result
    so_far.value c.term-sum.ensures.value (record { sfits = c.term-sum.type_inv }) so_far.small c.term-sum.ensures.small
    (omega arith) in
    record {
      value = more.0;
      small = more.1;
      products = omega (arith, so_far.products, c.term-sum.ensures.products);
    }
