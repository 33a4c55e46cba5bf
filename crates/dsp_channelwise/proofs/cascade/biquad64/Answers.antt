use Rattle.std.proofs.Common.{◌∙◌, ap, sym, length, map, ◌-◌, rules}
use Rattle.std.specs.Prelude.{fold}
use Rattle.std.proofs.lemmas.List.{length-map}
use Rattle.dsp_defs.specs.Biquad.{biquad64_section, sections, wide_output}
use Rattle.dsp_defs.specs.Numbers.{wrap, w32, ◌>>◌}
use Rattle.dsp_defs.specs.Signal.{outputs}
use Rattle.dsp_defs.specs.declared.format.Fmt.TheVariants.{Q31}
use Rattle.dsp_channelwise.specs.Recursions.{section_of}
use Rattle.dsp_channelwise.proofs.FewTerms.{section-cost}
use Rattle.dsp_channelwise.proofs.cascade.biquad64.Goals as goal

pub loop-section-preserved : goal.loop-section-preserved
loop-section-preserved g c =
    let so_far = c.loop-section.invariant in
    let p = c.args.post_shift in
    let x = c.as_slice.ensures.value in
    let accs = c.as_slice-in-Some.ensures.value in
    let given = c.in_ok-y-2.ensures in
    let here = c.in-Some.ensures in
    let step = given.values ∙ ap (map (λ acc. wrap w32 (acc >> (31 - p)))) (accs ∙ c.in_ok-accs.ensures.values
    ∙ ap (outputs (wide_output p (section_of c.in-Some.section))) x) in
    record {
      long = ap length given.values ∙ length-map _ _ ∙ ap length accs ∙ c.in_ok-accs.ensures.length ∙ ap length x
          ∙ so_far.long;
      fits = given.fits;
      rest = ap (λ y. fold (biquad64_section p) y (sections Q31 c.in-Some.later.now)) step
          ∙ ap (fold (biquad64_section p) c.loop-section.y.items) (sym here.0) ∙ so_far.rest;
      products = section-cost _ c.loop-section.steps.multiplies _ (length c.args.x.now) _ _ _ here.1
          (ap length x ∙ so_far.long) c.in_ok-accs.ensures.products so_far.products;
    }

pub returns-in_err-y-clause-values : goal.returns-in_err-y-clause-values
returns-in_err-y-clause-values g c = search rules

pub returns-in_err-y-clause-fits : goal.returns-in_err-y-clause-fits
returns-in_err-y-clause-fits g c = search rules

pub returns-in_err-y-clause-products : goal.returns-in_err-y-clause-products
returns-in_err-y-clause-products g c = search rules

pub loop-section-init : goal.loop-section-init
loop-section-init g c = search rules

pub invariant_of-recurrence : goal.invariant_of-recurrence
invariant_of-recurrence g c = search rules

pub returns-in_err-accs-clause-values : goal.returns-in_err-accs-clause-values
returns-in_err-accs-clause-values g c = search rules

pub returns-in_err-accs-clause-fits : goal.returns-in_err-accs-clause-fits
returns-in_err-accs-clause-fits g c = search rules

pub returns-in_err-accs-clause-products : goal.returns-in_err-accs-clause-products
returns-in_err-accs-clause-products g c = search rules

pub returns-in_err-y-2-clause-values : goal.returns-in_err-y-2-clause-values
returns-in_err-y-2-clause-values g c = search rules

pub returns-in_err-y-2-clause-fits : goal.returns-in_err-y-2-clause-fits
returns-in_err-y-2-clause-fits g c = search rules

pub returns-in_err-y-2-clause-products : goal.returns-in_err-y-2-clause-products
returns-in_err-y-2-clause-products g c = search rules

pub loop-section-smaller : goal.loop-section-smaller
loop-section-smaller g c = search rules

pub returns-clause-values : goal.returns-clause-values
returns-clause-values g c = search rules

pub returns-clause-fits : goal.returns-clause-fits
returns-clause-fits g c = search rules

pub returns-clause-products : goal.returns-clause-products
returns-clause-products g c = search rules
