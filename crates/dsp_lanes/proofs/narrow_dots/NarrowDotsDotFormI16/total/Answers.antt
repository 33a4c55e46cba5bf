use Rattle.std.proofs.Common.{◌∙◌, arith, w32, w64}
use Rattle.std.proofs.lemmas.Int.{ints, to_z-of_z}
use Rattle.dsp_lanes.proofs.LaneSums.{lanes_sum}
use Rattle.dsp_lanes.proofs.narrow_dots.NarrowDotsDotFormI16.total.Goals as goal

pub returns : goal.returns
returns c =
    to_z-of_z w64 c.from.result (record { sfits = c.from.type_inv })
    ∙ c.from.ensures
    ∙ lanes_sum w32 c.args.sums (omega (arith, ints)) c.requires.0
