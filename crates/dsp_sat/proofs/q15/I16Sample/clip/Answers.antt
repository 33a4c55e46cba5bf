use Rattle.std.specs.Int.{w16}
use Rattle.dsp_sat.proofs.Words.{clip-is}
use Rattle.dsp_sat.proofs.q15.I16Sample.clip.Goals as goal

pub returns : goal.returns
returns c =
    clip-is w16 c.args.x c.args.low c.args.high c.max.result c.min.result c.ranges.x c.ranges.low c.ranges.high
    (record { sfits = c.max.type_inv })
    (record { sfits = c.min.type_inv })
    c.max.ensures.value
    c.min.ensures.value
