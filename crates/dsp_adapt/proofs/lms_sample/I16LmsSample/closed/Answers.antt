use Rattle.std.proofs.Common.{◌∙◌, ap, rules, arith, ◌-◌, SFits}
use Rattle.std.specs.Int.{w16, w64}
use Rattle.std.proofs.lemmas.Int.{to_z-of_z}
use Rattle.dsp_defs.specs.Numbers.{◌>>◌, saturate, wrap, w32}
use Rattle.dsp_adapt.proofs.ShiftedWraps.{shifted-wrap}
use Rattle.dsp_adapt.proofs.lms_sample.I16LmsSample.closed.Goals as goal

pub returns : goal.returns
returns c = λ s is.
    let result : SFits w16 c.close15.result = search rules in
    let sum : SFits w64 c.args.sum = c.ranges.sum in
    to_z-of_z w16 c.close15.result result
    ∙ c.close15.ensures
    ∙ ap (λ t. saturate 16 (wrap w32 (t >> (15 - c.args.post_shift)))) (to_z-of_z w64 c.args.sum sum ∙ is)
    ∙ ap (saturate 16) (shifted-wrap s (15 - c.args.post_shift) (omega arith))
