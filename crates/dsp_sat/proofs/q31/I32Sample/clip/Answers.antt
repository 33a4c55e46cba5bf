use Rattle.std.specs.Int.{w32}
use Rattle.dsp_sat.proofs.Words.{clip-is}
use Rattle.dsp_sat.proofs.q31.I32Sample.clip.Goals as goal

pub returns : goal.returns
returns c =
    clip-is w32 c.args.x c.args.low c.args.high c.max.result c.min.result c.ranges.x c.ranges.low c.ranges.high
    (record { sfits = c.max.type_inv })
    (record { sfits = c.min.type_inv })
    c.max.ensures.value
    c.min.ensures.value
