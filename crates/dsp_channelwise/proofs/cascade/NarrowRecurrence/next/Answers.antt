use Rattle.std.proofs.Common.{◌∙◌, ap, reverse, ◌+ℤ◌, ◌*ℤ◌, rules}
use Rattle.std.specs.Int.{w32, w128}
use Rattle.std.proofs.lemmas.Int.{to_z-of_z}
use Rattle.dsp_defs.specs.Biquad.{section_close}
use Rattle.dsp_defs.specs.Signal.{sample}
use Rattle.dsp_channelwise.proofs.FewTerms.{two-terms, three-terms}
use Rattle.dsp_channelwise.proofs.cascade.NarrowRecurrence.next.Goals as goal

pub returns-clause-value : goal.returns-clause-value
returns-clause-value g c =
    let r = c.args.self.now in
    let b = r.section.0 in
    let a = r.section.1 in
    let xs = reverse c.args.x.now in
    let ys = reverse c.args.y.now in
    let forward = to_z-of_z w128 c.sum_below-forward.result (record { sfits = c.sum_below-forward.type_inv })
    ∙ c.sum_below-forward.ensures.value
    ∙ three-terms (sample b 0 *ℤ sample xs 0) (sample b 1 *ℤ sample xs 1) (sample b 2 *ℤ sample xs 2) in
    let back = to_z-of_z w128 c.sum_below-back.result (record { sfits = c.sum_below-back.type_inv })
    ∙ c.sum_below-back.ensures.value ∙ two-terms (sample a 0 *ℤ sample ys 0) (sample a 1 *ℤ sample ys 1) in
    let sum = to_z-of_z w128 c.sum.result (record { sfits = c.sum.type_inv }) ∙ c.sum.ensures.value
    ∙ (λ i. forward i +ℤ back i) in
    to_z-of_z w32 c.section_close.result (record { sfits = c.section_close.type_inv })
    ∙ c.section_close.ensures.value
    ∙ ap (section_close r.format r.post_shift) sum

pub sum-requires-clause-left : goal.sum-requires-clause-left
sum-requires-clause-left g c = search rules

pub sum-requires-clause-right : goal.sum-requires-clause-right
sum-requires-clause-right g c = search rules

pub returns-clause-fits : goal.returns-clause-fits
returns-clause-fits g c = search rules

pub returns-clause-products : goal.returns-clause-products
returns-clause-products g c = search rules
