use Rattle.std.proofs.Common.{◌∙◌, ap, drop, arith, rules}
use Rattle.std.specs.Int.{w32}
use Rattle.std.proofs.lemmas.Int.{to_z-of_z}
use Rattle.dsp_defs.specs.Lattice.{backward_values}
use Rattle.dsp_channelwise.proofs.Ladders.{back-ends, step-back}
use Rattle.dsp_channelwise.proofs.ladder.backward_values.Goals as goal

pub loop-m-preserved : goal.loop-m-preserved
loop-m-preserved g c = record {
  rest = step-back c.args.format _ c.args.k.now c.args.before.now c.loop-m.m _ _ c.loop-m.values.items _ _ (omega arith)
      (grind (arith, to_z-of_z)) (grind (arith, to_z-of_z)) c.in_ok-push.ensures.items c.loop-m.invariant.rest;
  products = grind (arith, c.loop-m.invariant.products, c.ladder_step-lower.ensures.products);
}

pub returns-clause-values : goal.returns-clause-values
returns-clause-values g c =
    back-ends c.args.format _ c.args.k.now _ c.loop-m.m c.loop-m.values.items _ _ c.loop-m-test.false
    c.in_ok-push-2.ensures.items c.loop-m.invariant.rest
    ∙ ap (λ f. backward_values c.args.format f c.args.k.now (drop 1 c.args.before.now))
    (to_z-of_z w32 c.args.f c.ranges.f)

pub loop-m-init : goal.loop-m-init
loop-m-init g c = search rules

pub offset_bounds-k-m : goal.offset_bounds-k-m
offset_bounds-k-m g c = search rules

pub bounds-k-m : goal.bounds-k-m
bounds-k-m g c = search rules

pub overflow_add-m : goal.overflow_add-m
overflow_add-m g c = search rules

pub returns-in_err-push-clause-values : goal.returns-in_err-push-clause-values
returns-in_err-push-clause-values g c = search rules

pub returns-in_err-push-clause-products : goal.returns-in_err-push-clause-products
returns-in_err-push-clause-products g c = search rules

pub returns-in_err-push-2-clause-values : goal.returns-in_err-push-2-clause-values
returns-in_err-push-2-clause-values g c = search rules

pub returns-in_err-push-2-clause-products : goal.returns-in_err-push-2-clause-products
returns-in_err-push-2-clause-products g c = search rules

pub returns-clause-products : goal.returns-clause-products
returns-clause-products g c = search rules
