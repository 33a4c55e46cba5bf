use Rattle.std.proofs.Common.{◌∙◌, ap}
use Rattle.std.specs.Int.{w32, w64}
use Rattle.std.proofs.lemmas.Int.{to_z-of_z}
use Rattle.dsp_defs.specs.Numbers.{wrap}
use Rattle.dsp_sat.proofs.Words.{sum_shift-is}
use Rattle.dsp_sat.proofs.q31.I32Sample.close.Goals as goal

pub returns : goal.returns
returns c =
    to_z-of_z w32 c.low_word.result (record { sfits = c.low_word.type_inv })
    ∙ c.low_word.ensures
    ∙ ap (wrap w32) (sum_shift-is w64 c.args.sum 31 c.ranges.sum)
