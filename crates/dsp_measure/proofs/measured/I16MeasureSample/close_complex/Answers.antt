use Rattle.std.proofs.Common.{◌∙◌, ap, refl, rules, SFits, to_z-of_z}
use Rattle.std.specs.Int.{w32, w64}
use Rattle.dsp_defs.specs.Numbers.{wrap}
use Rattle.dsp_sat.proofs.Words.{shift_down-is}
use Rattle.dsp_measure.proofs.measured.I16MeasureSample.close_complex.Goals as goal

pub returns : goal.returns
returns c =
    let low : SFits w32 c.low_word.result = search rules in
    let whole : SFits w64 c.from.result = search rules in
    to_z-of_z whole ∙ c.from.ensures ∙ to_z-of_z low ∙ c.low_word.ensures ∙
    ap (wrap w32) (shift_down-is w64 c.args.sum c.args.sum 6 6 c.ranges.sum refl refl)
