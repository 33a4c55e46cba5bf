use Rattle.std.proofs.Common.{◌≡◌, ◌∙◌, ap, reverse, rules, ◌+ℤ◌, ◌*ℤ◌, to_z, of_z}
use Rattle.std.specs.Int.{w32, w64, w128}
use Rattle.std.proofs.lemmas.Int.{to_z-of_z}
use Rattle.dsp_sat.proofs.Words.{widened}
use Rattle.dsp_defs.specs.Biquad.{fed_back}
use Rattle.dsp_defs.specs.Numbers.{wrap, ◌>>◌}
use Rattle.dsp_defs.specs.Signal.{sample}
use Rattle.dsp_channelwise.proofs.FewTerms.{three-terms}
use Rattle.dsp_channelwise.proofs.cascade.WideRecurrence.next.Goals as goal

pub returns-clause-value : goal.returns-clause-value
returns-clause-value g c =
    let p = c.args.self.now.post_shift in
    let b = c.args.self.now.section.0 in
    let a = c.args.self.now.section.1 in
    let xs = reverse c.args.x.now in
    let forward = to_z-of_z w128 c.sum_below-forward.result (record { sfits = c.sum_below-forward.type_inv })
    ∙ c.sum_below-forward.ensures.value
    ∙ three-terms (sample b 0 *ℤ sample xs 0) (sample b 1 *ℤ sample xs 1) (sample b 2 *ℤ sample xs 2) in
    let a1 : to_z w32 (of_z w32 (sample a 0)) ≡ sample a 0 = search (rules, to_z-of_z) in
    let a2 : to_z w32 (of_z w32 (sample a 1)) ≡ sample a 1 = search (rules, to_z-of_z) in
    let acc1 = to_z-of_z w64 c.back_wide.result (record { sfits = c.back_wide.type_inv }) ∙ c.back_wide.ensures in
    let acc2 = to_z-of_z w64 c.back_wide-2.result (record { sfits = c.back_wide-2.type_inv }) ∙ c.back_wide-2.ensures in
    let y1 = widened w128 w64 c.from.result c.fed_product-y1.result (record { sfits = c.fed_product-y1.type_inv })
    (record { sfits = c.from.type_inv }) c.from.ensures
    ∙ c.fed_product-y1.ensures.value
    ∙ (λ i. a1 i *ℤ fed_back p (acc1 i) >> 32) in
    let y2 = widened w128 w64 c.from-2.result c.fed_product-y2.result (record { sfits = c.fed_product-y2.type_inv })
    (record { sfits = c.from-2.type_inv }) c.from-2.ensures
    ∙ c.fed_product-y2.ensures.value
    ∙ (λ i. a2 i *ℤ fed_back p (acc2 i) >> 32) in
    let sum = to_z-of_z w128 c.sum.result (record { sfits = c.sum.type_inv }) ∙ c.sum.ensures.value
    ∙ (λ i. forward i +ℤ y1 i) in
    let all = to_z-of_z w128 c.sum-2.result (record { sfits = c.sum-2.type_inv }) ∙ c.sum-2.ensures.value
    ∙ (λ i. sum i +ℤ y2 i) in
    to_z-of_z w64 c.wrap64.result (record { sfits = c.wrap64.type_inv }) ∙ c.wrap64.ensures ∙ ap (wrap w64) all

pub sum-requires-clause-left : goal.sum-requires-clause-left
sum-requires-clause-left g c = search rules

pub sum-requires-clause-right : goal.sum-requires-clause-right
sum-requires-clause-right g c = search rules

pub sum-requires-2-clause-left : goal.sum-requires-2-clause-left
sum-requires-2-clause-left g c = search rules

pub sum-requires-2-clause-right : goal.sum-requires-2-clause-right
sum-requires-2-clause-right g c = search rules

pub bounds-a-0 : goal.bounds-a-0
bounds-a-0 g c = search rules

pub bounds-a-1 : goal.bounds-a-1
bounds-a-1 g c = search rules

pub returns-clause-fits : goal.returns-clause-fits
returns-clause-fits g c = search rules

pub returns-clause-products : goal.returns-clause-products
returns-clause-products g c = search rules
