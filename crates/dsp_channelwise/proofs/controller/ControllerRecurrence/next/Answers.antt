use Rattle.std.proofs.Common.{◌∙◌, reverse, ◌*ℤ◌, rules}
use Rattle.std.specs.Int.{w32, w128}
use Rattle.std.proofs.lemmas.Int.{to_z-of_z}
use Rattle.dsp_defs.specs.Adaptive.{pid_close}
use Rattle.dsp_defs.specs.Signal.{sample}
use Rattle.dsp_channelwise.proofs.FewTerms.{three-terms}
use Rattle.dsp_channelwise.proofs.controller.ControllerRecurrence.next.Goals as goal

pub returns-clause-value : goal.returns-clause-value
returns-clause-value g c =
    let a = c.args.self.now.gains in
    let xs = reverse c.args.x.now in
    let sum = to_z-of_z w128 c.sum_below-sum.result (record { sfits = c.sum_below-sum.type_inv })
    ∙ c.sum_below-sum.ensures.value
    ∙ three-terms (sample a 0 *ℤ sample xs 0) (sample a 1 *ℤ sample xs 1) (sample a 2 *ℤ sample xs 2) in
    let y1 = to_z-of_z w32 c.back.result (record { sfits = c.back.type_inv }) ∙ c.back.ensures in
    to_z-of_z w32 c.pid_close.result (record { sfits = c.pid_close.type_inv })
    ∙ c.pid_close.ensures.value
    ∙ (λ i. pid_close c.args.self.now.format (sum i) (y1 i))

pub pid_close-requires-clause-small : goal.pid_close-requires-clause-small
pid_close-requires-clause-small g c = search rules

pub returns-clause-fits : goal.returns-clause-fits
returns-clause-fits g c = search rules

pub returns-clause-products : goal.returns-clause-products
returns-clause-products g c = search rules

pub pid_close-requires-clause-wide : goal.pid_close-requires-clause-wide
pid_close-requires-clause-wide g c = search rules
