use Rattle.std.proofs.Common.{◌∙◌, subst}
use Rattle.std.specs.Int.{w32}
use Rattle.std.proofs.lemmas.Int.{to_z-of_z}
use Rattle.dsp_defs.specs.Formats.{word}
use Rattle.std.proofs.Common.{SFits}
use Rattle.dsp_sat.proofs.WideProducts.{word-in-32}
use Rattle.dsp_biquad.proofs.Scaled.{is_scaled, shift-few, shifted_up}
use Rattle.dsp_biquad.proofs.section.scaled.Goals as goal

pub returns-clause-value : goal.returns-clause-value
returns-clause-value g c =
    let format = g.T.Sample.format in
    let n = c.number in
    let z = g.T.Sample.number c.args.coefficient in
    let f = word-in-32 format n.result n.ensures.fits in
    shifted_up c.from.result z c.args.post_shift (record { sfits = c.from.type_inv })
    (c.from.ensures ∙ to_z-of_z w32 n.result f ∙ n.ensures.value)
    (subst (SFits w32) n.ensures.value f) (shift-few format c.args.post_shift c.requires)

pub returns-clause-fits : goal.returns-clause-fits
returns-clause-fits g c =
    let format = g.T.Sample.format in
    let z = g.T.Sample.number c.args.coefficient in
    is_scaled format c.args.post_shift z _ (subst (SFits (word format)) c.number.ensures.value c.number.ensures.fits)
    (returns-clause-value g c)
