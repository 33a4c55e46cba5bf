use Rattle.std.proofs.Common.{◌∙◌, sym, ◌*ℤ◌, ◌%◌, rules}
use Rattle.std.specs.Int.{w32, w128}
use Rattle.std.proofs.lemmas.Int.{to_z-of_z}
use Rattle.dsp_channelwise.proofs.Phases.{tap-of-phase}
use Rattle.dsp_channelwise.proofs.interpolation.PhaseDelaysTerms.term.Goals as goal

pub returns-clause-value : goal.returns-clause-value
returns-clause-value g c =
    let f = c.args.self.now.of in
    let tap = to_z-of_z w32 c.sample-tap.result (record { sfits = c.sample-tap.type_inv }) ∙ c.sample-tap.ensures
    ∙ sym (tap-of-phase f.factor f.b.now (c.args.self.now.i % f.factor) c.args.k c.requires.0) in
    let x = to_z-of_z w32 c.delayed.result (record { sfits = c.delayed.type_inv }) ∙ c.delayed.ensures in
    to_z-of_z w128 c.product.result (record { sfits = c.product.type_inv })
    ∙ c.product.ensures.value
    ∙ (λ i. tap i *ℤ x i)

pub overflow_mul-factor : goal.overflow_mul-factor
overflow_mul-factor g c = search rules

pub nonzero_rem-self : goal.nonzero_rem-self
nonzero_rem-self g c = search rules

pub overflow_add-factor : goal.overflow_add-factor
overflow_add-factor g c = search rules

pub nonzero_div-self : goal.nonzero_div-self
nonzero_div-self g c = search rules

pub returns-clause-small : goal.returns-clause-small
returns-clause-small g c = search rules

pub returns-clause-products : goal.returns-clause-products
returns-clause-products g c = search rules
