use Rattle.std.proofs.Common.{◌∙◌, sym, ap, ◌/◌, ◌^◌, w8, w16, w32, arith}
use Rattle.std.proofs.lemmas.Int.{to_z-of_z}
use Rattle.dsp_defs.specs.Generator.{state_sample}
use Rattle.dsp_defs.specs.declared.format.Fmt.{Fmt}
use Rattle.dsp_wave.proofs.GeneratorLemmas.{wrap-cast}
use Rattle.dsp_wave.proofs.generator.state_sample.Goals as goal

pub returns-in-Q7-clause-value : goal.returns-in-Q7-clause-value
returns-in-Q7-clause-value c =
    to_z-of_z w32 c.from.result (record { sfits = omega (arith, c.from.type_inv) })
    ∙ c.from.ensures
    ∙ to_z-of_z w8 c.cast_signed.result (record { sfits = omega (arith, c.cast_signed.type_inv) })
    ∙ c.cast_signed.ensures
    ∙ sym (wrap-cast w8 (c.args.state / 2 ^ 24) (omega (arith, c.ranges.state)))
    ∙ ap (λ (format : Fmt). state_sample format c.args.state) (sym c.in-Q7.is)

pub returns-in-Q15-clause-value : goal.returns-in-Q15-clause-value
returns-in-Q15-clause-value c =
    to_z-of_z w32 c.from-in-Q15.result (record { sfits = omega (arith, c.from-in-Q15.type_inv) })
    ∙ c.from-in-Q15.ensures
    ∙ to_z-of_z w16 c.cast_signed-in-Q15.result (record { sfits = omega (arith, c.cast_signed-in-Q15.type_inv) })
    ∙ c.cast_signed-in-Q15.ensures
    ∙ sym (wrap-cast w16 (c.args.state / 2 ^ 16) (omega (arith, c.ranges.state)))
    ∙ ap (λ (format : Fmt). state_sample format c.args.state) (sym c.in-Q15.is)

pub returns-in-Q31-clause-value : goal.returns-in-Q31-clause-value
returns-in-Q31-clause-value c =
    to_z-of_z w32 c.cast_signed-in-Q31.result (record { sfits = omega (arith, c.cast_signed-in-Q31.type_inv) })
    ∙ c.cast_signed-in-Q31.ensures
    ∙ sym (wrap-cast w32 c.args.state (omega (arith, c.ranges.state)))
    ∙ ap (λ (format : Fmt). state_sample format c.args.state) (sym c.in-Q31.is)
