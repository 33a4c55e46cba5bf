use Rattle.std.proofs.Common.{◌∙◌, ap}
use Rattle.std.specs.Int.{w16, w32}
use Rattle.std.proofs.lemmas.Int.{to_z-of_z}
use Rattle.dsp_defs.specs.Numbers.{saturate}
use Rattle.dsp_sat.proofs.Words.{product_shift-is}
use Rattle.dsp_sat.proofs.q15.I16Sample.mult.Goals as goal

pub returns-clause-value : goal.returns-clause-value
returns-clause-value g c =
    to_z-of_z w16 c.narrow16.result (record { sfits = c.narrow16.type_inv })
    ∙ c.narrow16.ensures
    ∙ ap (saturate 16)
    (product_shift-is w32 w16 c.args.a c.args.b c.product.result 15 c.ranges.a c.ranges.b
    (record { sfits = c.product.type_inv }) c.product.ensures.value)

pub returns-clause-steps : goal.returns-clause-steps
returns-clause-steps g c = c.product.ensures.steps
