use Rattle.std.proofs.Common.{◌≡◌, ◌∙◌, ap, ◌+◌, ◌*◌, ◌≤◌, ℕ, suc, zero, length, map, arith}
use Rattle.std.proofs.Math.Nat.{div-zero, div-add-mod}
use Rattle.dsp_defs.specs.Adaptive.{step_size, weight_after}
use Rattle.dsp_defs.specs.Counts.{Counts, Rises}
use Rattle.dsp_defs.specs.Signal.{sample, values}
use Rattle.dsp_lanes.specs.Turns.{RisesWithin, lane_turns}
use Rattle.dsp_adapt.proofs.adapting.adapt.Goals as goal

turns-le : (l n : ℕ) → lane_turns l n ≤ n
turns-le zero n = omega (arith, div-zero n, div-add-mod n zero)
turns-le (suc l) n = omega (arith, div-add-mod n (suc l))

-- a pass over the weights, a product, and one more pass
two-passes : (a b c d : Counts) (n l m : ℕ) → RisesWithin a b n (lane_turns l n) → Rises b c 1 1 →
    RisesWithin c d n (lane_turns m n) → RisesWithin a d (2 * n + 1) (2 * n + 1)
two-passes a b c d n l m first product second = record {
  multiplies_rise = omega (arith, first.multiplies_rise, product.multiplies_rise, second.multiplies_rise);
  turns_within = omega (arith, first.turns_within, product.turns_rise, second.turns_within, turns-le l n, turns-le m n);
}

pub returns-clause-output : goal.returns-clause-output
returns-clause-output g c = c.closed-output.ensures _ c.dot-sum.ensures.sum

pub returns-clause-error : goal.returns-clause-error
returns-clause-error g c = c.error-error.ensures

pub returns-clause-weights : goal.returns-clause-weights
returns-clause-weights g c =
    let T = g.T.Sample in
    let alpha : T.number c.step_size-alpha.result ≡ step_size T.format (T.number c.args.mu)
    (T.number c.error-error.result) = c.step_size-alpha.ensures _ _ c.product-change.ensures.value in
    c.update_weights.ensures.weights
    ∙ ap (λ a. values (length c.args.weights.now) (λ j. weight_after T.format a
    (sample (map T.number c.args.weights.now) j) (sample (map T.number c.args.window.now) j))) alpha

pub returns-clause-steps : goal.returns-clause-steps
returns-clause-steps g c =
    two-passes c.args.steps.now c.dot-sum.new.steps c.product-change.new.steps c.update_weights.new.steps
    (length c.args.weights.now) _ _ c.dot-sum.ensures.steps c.product-change.ensures.steps
    c.update_weights.ensures.steps
