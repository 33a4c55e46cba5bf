use Rattle.std.proofs.Common.{◌≡◌, ◌∙◌, ap, ◌*ℤ◌, ◌-ℤ◌, length, reverse, to_z, of_z, arith, rules}
use Rattle.std.specs.Int.{w32}
use Rattle.dsp_defs.specs.Adaptive.{lms_close, step_size, weight_after}
use Rattle.dsp_defs.specs.Formats.{word}
use Rattle.dsp_defs.specs.Numbers.{wrap}
use Rattle.dsp_defs.specs.Signal.{sample, sum_below, values}
use Rattle.dsp_exact.proofs.Exact.{exact}
use Rattle.dsp_channelwise.proofs.adapting.adapted_to.Goals as goal

pub returns-clause-value : goal.returns-clause-value
returns-clause-value g c =
    let f = c.args.format in
    let w = c.args.w.now in
    let xs = reverse c.args.x.now in
    let y = lms_close f c.args.post_shift (sum_below (length w) (λ k. sample w k *ℤ sample xs k)) in
    let output : to_z w32 (of_z w32 c.lms_close-output.result) ≡ y = grind (arith, exact) in
    let error : to_z w32 (of_z w32 c.wrap-error.result) ≡ wrap (word f) (c.args.reference -ℤ y) =
    grind (arith, exact) in
    let alpha : to_z w32 (of_z w32 c.step_size-alpha.result) ≡ step_size f c.args.mu
    (wrap (word f) (c.args.reference -ℤ y)) = grind (arith, exact) in
    let weights = c.in_ok-weights.ensures.values
    ∙ ap (λ a. values (length w) (λ k. weight_after f a (sample w k) (sample xs k))) alpha in
    λ j. record { output = output j; error = error j; weights = weights j }

pub overflow_sub-from : goal.overflow_sub-from
overflow_sub-from g c = search rules

pub returns-in_err-weights-clause-value : goal.returns-in_err-weights-clause-value
returns-in_err-weights-clause-value g c = search rules

pub returns-in_err-weights-clause-length : goal.returns-in_err-weights-clause-length
returns-in_err-weights-clause-length g c = search rules

pub returns-in_err-weights-clause-fits : goal.returns-in_err-weights-clause-fits
returns-in_err-weights-clause-fits g c = search rules

pub returns-in_err-weights-clause-products : goal.returns-in_err-weights-clause-products
returns-in_err-weights-clause-products g c = search rules

pub returns-clause-length : goal.returns-clause-length
returns-clause-length g c = search rules

pub returns-clause-fits : goal.returns-clause-fits
returns-clause-fits g c = search rules

pub returns-clause-products : goal.returns-clause-products
returns-clause-products g c = search rules
