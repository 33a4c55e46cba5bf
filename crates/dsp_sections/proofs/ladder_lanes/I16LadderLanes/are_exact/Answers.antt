use Rattle.std.proofs.Common.{◌∙◌, sym, refl, w16}
use Rattle.dsp_lanes.proofs.LaneOps.{ints_of_bits}
use Rattle.dsp_lanes.proofs.LaneSums.{lanes_read}
use Rattle.dsp_sections.proofs.LadderLanes.{lanes_fit, cut_lanes, cut_exact}
use Rattle.dsp_sections.proofs.ladder_lanes.I16LadderLanes.are_exact.Goals as goal

pub are_same-requires-clause-fit_a : goal.are_same-requires-clause-fit_a
are_same-requires-clause-fit_a c = (lanes_fit w16 8 _ c.args.k refl c.requires.fit).0

pub are_same-requires-clause-fit_b : goal.are_same-requires-clause-fit_b
are_same-requires-clause-fit_b c = let cut = cut_lanes c.args.k c.requires.fit in (lanes_fit w16 8 _ _ cut.0 cut.1).0

pub are_same-requires-clause-long_b : goal.are_same-requires-clause-long_b
are_same-requires-clause-long_b c = let cut = cut_lanes c.args.k c.requires.fit in (lanes_fit w16 8 _ _ cut.0 cut.1).1

pub returns : goal.returns
returns c h =
    let cut = cut_lanes c.args.k c.requires.fit in
    cut_exact c.args.k (sym (ints_of_bits w16 c.args.k c.requires.fit.0) ∙ c.are_same.ensures h ∙
    (lanes_read w16 _ _ cut.0 cut.1.0).0)
