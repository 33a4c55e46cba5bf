use Rattle.std.proofs.Common.{◌∙◌, ap, sym, subst}
use Rattle.std.specs.Int.{w32, w128}
use Rattle.std.specs.Prelude.{FitsSigned}
use Rattle.std.proofs.lemmas.Int.{to_z-of_z}
use Rattle.dsp_sat.proofs.Words.{widened}
use Rattle.dsp_defs.specs.Formats.{word, word_bits}
use Rattle.dsp_defs.specs.Numbers.{saturate}
use Rattle.dsp_exact.proofs.Exact.{wide-sum-fits, wide-sum-is}
use Rattle.dsp_exact.proofs.elementwise.add.Goals as goal

pub overflow_add-from : goal.overflow_add-from
overflow_add-from c =
    wide-sum-fits c.from.result c.from-2.result c.args.a c.args.b
    (widened w128 w32 c.from.result c.args.a c.ranges.a (record { sfits = c.from.type_inv }) c.from.ensures)
    (widened w128 w32 c.from-2.result c.args.b c.ranges.b (record { sfits = c.from-2.type_inv }) c.from-2.ensures)
    c.ranges.a c.ranges.b

pub returns-clause-value : goal.returns-clause-value
returns-clause-value c =
    to_z-of_z w32 c.saturate.result (record { sfits = c.saturate.type_inv })
    ∙ c.saturate.ensures.value
    ∙ ap (saturate (word_bits c.args.format)) (wide-sum-is c.from.result c.from-2.result c.args.a c.args.b
    (widened w128 w32 c.from.result c.args.a c.ranges.a (record { sfits = c.from.type_inv }) c.from.ensures)
    (widened w128 w32 c.from-2.result c.args.b c.ranges.b (record { sfits = c.from-2.type_inv }) c.from-2.ensures)
    c.ranges.a c.ranges.b)

pub returns-clause-fits : goal.returns-clause-fits
returns-clause-fits c = subst (FitsSigned (word c.args.format))
    (sym (to_z-of_z w32 c.saturate.result (record { sfits = c.saturate.type_inv }))) c.saturate.ensures.fits
