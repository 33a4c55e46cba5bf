use Rattle.std.proofs.Common.{arith, eqb-true, w16}
use Rattle.dsp_sections.proofs.LadderLanes.{are_same}
use Rattle.dsp_sections.proofs.ladder_lanes.are_same.Goals as goal

pub returns : goal.returns
returns c h = are_same w16 8 c.args.a c.args.b (omega arith) (c.requires.fit_a, c.requires.long_a)
    (c.requires.fit_b, c.requires.long_b) (eqb-true _ _ h)
