use Rattle.std.proofs.Common.{◌≡◌, ◌∙◌, ap, sym, rules, to_z, of_z}
use Rattle.std.specs.Prelude.{nat_abs}
use Rattle.std.specs.Int.{w32, w128}
use Rattle.std.proofs.lemmas.Int.{to_z-of_z}
use Rattle.dsp_defs.specs.Signal.{delayed, sample}
use Rattle.dsp_defs.specs.Sums.{sparse_term}
use Rattle.dsp_channelwise.proofs.Delays.{delay_is}
use Rattle.dsp_channelwise.proofs.sparse_sums.SparseDelaysTerms.term.Goals as goal

pub returns-clause-value : goal.returns-clause-value
returns-clause-value g c =
    let t = c.args.self.now in
    let d : to_z w32 (of_z w32 (sample t.of.delays.now c.args.k)) ≡ sample t.of.delays.now c.args.k =
    search (rules, to_z-of_z) in
    let delay = c.unsigned_abs-delay.ensures.value ∙ ap nat_abs d
    ∙ sym (delay_is t.of.delays.now c.args.k c.requires) in
    let b = to_z-of_z w32 c.sample.result (record { sfits = c.sample.type_inv }) ∙ c.sample.ensures in
    let x = to_z-of_z w32 c.delayed-x.result (record { sfits = c.delayed-x.type_inv }) ∙ c.delayed-x.ensures
    ∙ ap (delayed t.of.x.now t.n) delay in
    to_z-of_z w128 c.sparse_term.result (record { sfits = c.sparse_term.type_inv })
    ∙ c.sparse_term.ensures.value
    ∙ (λ i. sparse_term t.of.format (b i) (x i))
