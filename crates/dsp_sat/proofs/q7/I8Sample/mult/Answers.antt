use Rattle.std.proofs.Common.{◌∙◌, ap}
use Rattle.std.specs.Int.{w8, w32}
use Rattle.std.proofs.lemmas.Int.{to_z-of_z}
use Rattle.dsp_defs.specs.Numbers.{saturate}
use Rattle.dsp_sat.proofs.Words.{product_shift-is}
use Rattle.dsp_sat.proofs.q7.I8Sample.mult.Goals as goal

pub returns-clause-value : goal.returns-clause-value
returns-clause-value g c =
    to_z-of_z w8 c.sat8.result (record { sfits = c.sat8.type_inv })
    ∙ c.sat8.ensures
    ∙ ap (saturate 8)
    (product_shift-is w32 w8 c.args.a c.args.b c.product-product.result 7 c.ranges.a c.ranges.b
    (record { sfits = c.product-product.type_inv }) c.product-product.ensures.value)

pub returns-clause-steps : goal.returns-clause-steps
returns-clause-steps g c = c.product-product.ensures.steps
