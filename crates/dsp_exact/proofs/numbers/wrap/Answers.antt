use Rattle.std.proofs.Common.{◌∙◌, ap, sym}
use Rattle.std.specs.Int.{w8, w16, w32, w128}
use Rattle.std.proofs.lemmas.Int.{to_z-of_z}
use Rattle.dsp_sat.proofs.Words.{remainder_wraps}
use Rattle.dsp_defs.specs.Formats.{word}
use Rattle.dsp_defs.specs.Numbers.{wrap}
use Rattle.dsp_exact.proofs.numbers.wrap.Goals as goal

pub returns-in-Q7-clause-value : goal.returns-in-Q7-clause-value
returns-in-Q7-clause-value c =
    to_z-of_z w32 c.from.result (record { sfits = c.from.type_inv })
    ∙ c.from.ensures
    ∙ remainder_wraps w8 w128 c.args.v c.rem_euclid.result c.cast_signed.result c.ranges.v
    (record { sfits = c.rem_euclid.type_inv }) (record { sfits = c.cast_signed.type_inv }) c.rem_euclid.ensures.value
    c.cast_signed.ensures
    ∙ ap (λ f. wrap (word f) c.args.v) (sym c.in-Q7.is)

pub returns-in-Q15-clause-value : goal.returns-in-Q15-clause-value
returns-in-Q15-clause-value c =
    to_z-of_z w32 c.from-in-Q15.result (record { sfits = c.from-in-Q15.type_inv })
    ∙ c.from-in-Q15.ensures
    ∙ remainder_wraps w16 w128 c.args.v c.rem_euclid-in-Q15.result c.cast_signed-in-Q15.result c.ranges.v
    (record { sfits = c.rem_euclid-in-Q15.type_inv }) (record { sfits = c.cast_signed-in-Q15.type_inv })
    c.rem_euclid-in-Q15.ensures.value c.cast_signed-in-Q15.ensures
    ∙ ap (λ f. wrap (word f) c.args.v) (sym c.in-Q15.is)
