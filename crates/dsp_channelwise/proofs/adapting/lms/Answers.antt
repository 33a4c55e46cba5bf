use Rattle.std.proofs.Common.{◌≡◌, ◌∙◌, ◌<◌, ap, arith, rules, length, to_z, of_z}
use Rattle.std.specs.Prelude.{FitsSigned, map}
use Rattle.std.specs.Int.{w32}
use Rattle.std.proofs.lemmas.Int.{to_z-of_z}
use Rattle.std.proofs.lemmas.List.{length-reverse}
use Rattle.dsp_defs.specs.Adaptive.{errors_of, outputs_of}
use Rattle.dsp_defs.specs.Formats.{word}
use Rattle.dsp_exact.proofs.Pushed.{all-more}
use Rattle.dsp_channelwise.specs.Adapting.{adapted_of}
use Rattle.dsp_channelwise.proofs.KeptStates.{cost-within, map-more}
use Rattle.dsp_channelwise.proofs.AdaptedStates.{lms-all, lms-more, weights-pushed}
use Rattle.dsp_channelwise.proofs.adapting.lms.Goals as goal

pub loop-n-init : goal.loop-n-init
loop-n-init g c =
    let empty = c.in_ok-outputs.ensures.items in
    let none = c.in_ok-errors.ensures.items in
    record {
      outputs = empty;
      errors = none;
      weights = c.in_ok-w.ensures;
      long = ap length c.in_ok-w.ensures ∙ length-reverse c.args.taps.now;
      output_fits = λ k d inside. absurd (omega (arith, inside, ap length empty));
      error_fits = λ k d inside. absurd (omega (arith, inside, ap length none));
      products = omega arith;
    }

pub loop-n-preserved : goal.loop-n-preserved
loop-n-preserved g c =
    let so_far = c.loop-n.invariant in
    let next = c.in_ok-next.next in
    let new = adapted_of c.in_ok-next.next in
    let inside : c.loop-n.n < length c.args.x.now = omega arith in
    let output : to_z w32 (of_z w32 c.in_ok-next.next.output) ≡ c.in_ok-next.next.output = search (rules, to_z-of_z) in
    let error : to_z w32 (of_z w32 c.in_ok-next.next.error) ≡ c.in_ok-next.next.error = search (rules, to_z-of_z) in
    let more = lms-more c.args.format c.args.post_shift (to_z w32 (of_z w32 c.args.mu)) c.args.taps.now c.args.x.now
    c.args.reference.now _ c.loop-n.n _ new inside (c.deref.ensures.value ∙ so_far.weights)
    (search (rules, to_z-of_z)) c.in_ok-next.ensures.value in
    record {
      outputs = map-more outputs_of _ _ _ _ _ new c.in_ok-push.ensures.items output so_far.outputs more;
      errors = map-more errors_of _ _ _ _ _ new c.in_ok-push-2.ensures.items error so_far.errors more;
      weights = grind (arith, weights-pushed, more);
      long = grind arith;
      output_fits = all-more (FitsSigned (word c.args.format)) _ _ _ _ c.in_ok-push.ensures.items output
          so_far.output_fits c.in_ok-next.ensures.fits.0;
      error_fits = all-more (FitsSigned (word c.args.format)) _ _ _ _ c.in_ok-push-2.ensures.items error
          so_far.error_fits c.in_ok-next.ensures.fits.1;
      products = grind (arith, so_far.products);
    }

pub returns-in_err-push-clause-products : goal.returns-in_err-push-clause-products
returns-in_err-push-clause-products g c =
    cost-within _ _ _ c.loop-n.n _ _ c.loop-n.invariant.products (grind arith) (omega arith)

pub returns-in_err-push-2-clause-products : goal.returns-in_err-push-2-clause-products
returns-in_err-push-2-clause-products g c =
    cost-within _ _ _ c.loop-n.n _ _ c.loop-n.invariant.products (grind arith) (omega arith)

pub returns-in_err-next-clause-products : goal.returns-in_err-next-clause-products
returns-in_err-next-clause-products g c =
    cost-within _ _ _ c.loop-n.n _ _ c.loop-n.invariant.products (omega (
      arith,
      c.adapted_to.ensures.products,
      ap length c.deref.ensures.value,
      c.loop-n.invariant.long,
    )) c.loop-n-test.true

pub returns-clause-outputs : goal.returns-clause-outputs
returns-clause-outputs g c =
    c.loop-n.invariant.outputs
    ∙ ap (map outputs_of) (lms-all c.args.format c.args.post_shift _ c.args.mu c.args.taps.now c.args.x.now
    c.args.reference.now c.loop-n.n (to_z-of_z w32 c.args.mu c.ranges.mu) c.loop-n-test.false)

pub returns-clause-errors : goal.returns-clause-errors
returns-clause-errors g c =
    c.loop-n.invariant.errors
    ∙ ap (map errors_of) (lms-all c.args.format c.args.post_shift _ c.args.mu c.args.taps.now c.args.x.now
    c.args.reference.now c.loop-n.n (to_z-of_z w32 c.args.mu c.ranges.mu) c.loop-n-test.false)

pub returns-in_err-outputs-clause-outputs : goal.returns-in_err-outputs-clause-outputs
returns-in_err-outputs-clause-outputs g c = search rules

pub returns-in_err-outputs-clause-errors : goal.returns-in_err-outputs-clause-errors
returns-in_err-outputs-clause-errors g c = search rules

pub returns-in_err-outputs-clause-fits : goal.returns-in_err-outputs-clause-fits
returns-in_err-outputs-clause-fits g c = search rules

pub returns-in_err-outputs-clause-products : goal.returns-in_err-outputs-clause-products
returns-in_err-outputs-clause-products g c = search rules

pub returns-in_err-errors-clause-outputs : goal.returns-in_err-errors-clause-outputs
returns-in_err-errors-clause-outputs g c = search rules

pub returns-in_err-errors-clause-errors : goal.returns-in_err-errors-clause-errors
returns-in_err-errors-clause-errors g c = search rules

pub returns-in_err-errors-clause-fits : goal.returns-in_err-errors-clause-fits
returns-in_err-errors-clause-fits g c = search rules

pub returns-in_err-errors-clause-products : goal.returns-in_err-errors-clause-products
returns-in_err-errors-clause-products g c = search rules

pub returns-in_err-w-clause-outputs : goal.returns-in_err-w-clause-outputs
returns-in_err-w-clause-outputs g c = search rules

pub returns-in_err-w-clause-errors : goal.returns-in_err-w-clause-errors
returns-in_err-w-clause-errors g c = search rules

pub returns-in_err-w-clause-fits : goal.returns-in_err-w-clause-fits
returns-in_err-w-clause-fits g c = search rules

pub returns-in_err-w-clause-products : goal.returns-in_err-w-clause-products
returns-in_err-w-clause-products g c = search rules

pub overflow_add-past : goal.overflow_add-past
overflow_add-past g c = search rules

pub slice_bounds-past-end : goal.slice_bounds-past-end
slice_bounds-past-end g c = search rules

pub offset_bounds-reference-n : goal.offset_bounds-reference-n
offset_bounds-reference-n g c = search rules

pub bounds-reference-n : goal.bounds-reference-n
bounds-reference-n g c = search rules

pub returns-in_err-next-clause-outputs : goal.returns-in_err-next-clause-outputs
returns-in_err-next-clause-outputs g c = search rules

pub returns-in_err-next-clause-errors : goal.returns-in_err-next-clause-errors
returns-in_err-next-clause-errors g c = search rules

pub returns-in_err-next-clause-fits : goal.returns-in_err-next-clause-fits
returns-in_err-next-clause-fits g c = search rules

pub returns-in_err-push-clause-outputs : goal.returns-in_err-push-clause-outputs
returns-in_err-push-clause-outputs g c = search rules

pub returns-in_err-push-clause-errors : goal.returns-in_err-push-clause-errors
returns-in_err-push-clause-errors g c = search rules

pub returns-in_err-push-clause-fits : goal.returns-in_err-push-clause-fits
returns-in_err-push-clause-fits g c = search rules

pub returns-in_err-push-2-clause-outputs : goal.returns-in_err-push-2-clause-outputs
returns-in_err-push-2-clause-outputs g c = search rules

pub returns-in_err-push-2-clause-errors : goal.returns-in_err-push-2-clause-errors
returns-in_err-push-2-clause-errors g c = search rules

pub returns-in_err-push-2-clause-fits : goal.returns-in_err-push-2-clause-fits
returns-in_err-push-2-clause-fits g c = search rules

pub returns-clause-fits : goal.returns-clause-fits
returns-clause-fits g c = search rules

pub returns-clause-products : goal.returns-clause-products
returns-clause-products g c = search rules
