use Rattle.std.proofs.Common.{◌∙◌, ap}
use Rattle.std.specs.Int.{w8, w32}
use Rattle.std.proofs.lemmas.Int.{to_z-of_z}
use Rattle.dsp_defs.specs.Numbers.{saturate}
use Rattle.dsp_sat.proofs.Words.{sum_shift-is}
use Rattle.dsp_sat.proofs.q7.I8Sample.sparse_close.Goals as goal

pub returns : goal.returns
returns c =
    to_z-of_z w8 c.sat8.result (record { sfits = c.sat8.type_inv })
    ∙ c.sat8.ensures
    ∙ ap (saturate 8) (sum_shift-is w32 c.args.sum 7 c.ranges.sum)
