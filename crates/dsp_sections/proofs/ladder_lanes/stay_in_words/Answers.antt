use Rattle.std.proofs.Common.{◌∙◌, refl, replicate, arith, eqb-true, w32, pos}
use Rattle.std.proofs.lemmas.Int.{ints}
use Rattle.std.proofs.lemmas.Simd.{Each1-replicate, zip2_splat_left}
use lib.Signed.{lt_z}
use mir.Val.{SFits}
use Rattle.dsp_sections.proofs.LadderWords.{compared_same}
use Rattle.dsp_sections.proofs.ladder_lanes.stay_in_words.Goals as goal

pub returns : goal.returns
returns c h =
    let asked = c.requires in
    compared_same c.args.differences c.args.values (replicate 4 (pos 0)) c.args.taken
    (asked.fit_differences, asked.long_differences) (asked.fit_values, asked.long_values)
    (Each1-replicate (SFits w32) 4 (pos 0) (omega (arith, ints)), refl) (asked.fit_taken, asked.long_taken)
    (eqb-true _ _ h)
    ∙ zip2_splat_left lt_z (pos 0) 4 c.args.taken asked.long_taken
