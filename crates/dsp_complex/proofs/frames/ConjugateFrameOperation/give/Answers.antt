use Rattle.std.proofs.Common.{◌∙◌, sym, subst, rules, SFits, to_z-of_z, FitsSigned, w32}
use Rattle.dsp_defs.specs.Formats.{word}
use Rattle.dsp_defs.specs.Signal.{sample}
use Rattle.dsp_defs.specs.Complex.{cmplx_conj}
use Rattle.dsp_complex.proofs.Written.{pair-written, pair-fits}
use Rattle.dsp_complex.proofs.frames.ConjugateFrameOperation.give.Goals as goal

pub returns-clause-value : goal.returns-clause-value
returns-clause-value g c =
    let number1 : SFits w32 c.number.result = search rules in
    let number2 : SFits w32 c.number-2.result = search rules in
    let fits_0 : SFits w32 (sample c.args.frame.now 0) = search rules in
    let fits_1 : SFits w32 (sample c.args.frame.now 1) = search rules in
    pair-written c.args.out.now _ _ _ _ c.requires.room
    (to_z-of_z number1 ∙ c.number.ensures.value ∙ c.conjugate-given.ensures.re ∙
    (λ i. (cmplx_conj g.T.Sample.format ((c.of_number.ensures ∙ to_z-of_z fits_0) i)
    ((c.of_number-2.ensures ∙ to_z-of_z fits_1) i)).0))
    (to_z-of_z number2 ∙ c.number-2.ensures.value ∙ c.conjugate-given.ensures.im ∙
    (λ i. (cmplx_conj g.T.Sample.format ((c.of_number.ensures ∙ to_z-of_z fits_0) i)
    ((c.of_number-2.ensures ∙ to_z-of_z fits_1) i)).1))

pub returns-clause-in_format : goal.returns-clause-in_format
returns-clause-in_format g c =
    let P = FitsSigned (word g.T.Sample.format) in
    let number1 : SFits w32 c.number.result = search rules in
    let number2 : SFits w32 c.number-2.result = search rules in
    pair-fits (word g.T.Sample.format) _ (subst P (sym (to_z-of_z number1)) c.number.ensures.fits) _
    (subst P (sym (to_z-of_z number2)) c.number-2.ensures.fits) c.args.out.now c.requires.room
