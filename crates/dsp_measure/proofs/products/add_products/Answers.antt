use Rattle.std.proofs.Common.{◌+◌, ◌∙◌, arith, to_z-of_z}
use Rattle.dsp_defs.specs.Formats.{accumulator}
use Rattle.dsp_measure.proofs.SumLaws.{sum-none, products-more, products_of}
use Rattle.dsp_measure.proofs.products.add_products.Goals as goal

pub loop-n-init : goal.loop-n-init
loop-n-init g c =
    let sum_is = c.sum_of_number-sum.ensures ∙ to_z-of_z c.ranges.start in
    rw (to_z-of_z c.ranges.start)
    (record {
      sum = λ x y _. sum_is ∙ sum-none (accumulator g.T.Sample.format) c.args.start (products_of g.T.Sample.format x y)
          c.requires.start;
      steps = record { multiplies_rise = omega arith; turns_rise = omega arith };
    })

pub loop-n-preserved : goal.loop-n-preserved
loop-n-preserved g c =
    let T = g.T.Sample in
    let n = c.loop-n.n in
    let rise = c.loop-n.invariant.steps in
    let one = c.add_measured-sum.ensures.steps in
    record {
      sum = λ x y is. products-more T.format _ _ (T.total c.add_measured-sum.result) (T.number c.at-a.result.0)
          (T.number c.at-a.result.1) n (n + 1) x y (omega arith)
          (is n c.at-a.result c.loop-n-test.true c.at-a.ensures) (c.loop-n.invariant.sum x y is)
          c.add_measured-sum.ensures.value;
      steps = record {
        multiplies_rise = omega (arith, rise.multiplies_rise, one.multiplies_rise);
        turns_rise =
            omega (arith, rise.turns_rise, one.turns_rise);
      };
    }
