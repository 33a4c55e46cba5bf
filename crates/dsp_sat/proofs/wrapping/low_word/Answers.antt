use Rattle.std.specs.Int.{w32, w64}
use Rattle.dsp_sat.proofs.Words.{remainder_wraps}
use Rattle.dsp_sat.proofs.wrapping.low_word.Goals as goal

pub returns : goal.returns
returns c =
    remainder_wraps w32 w64 c.args.v c.rem_euclid.result c.cast_signed.result c.ranges.v
    (record { sfits = c.rem_euclid.type_inv })
    (record { sfits = c.cast_signed.type_inv })
    c.rem_euclid.ensures.value
    c.cast_signed.ensures
