use Rattle.std.proofs.Common.{w16}
use Rattle.dsp_lanes.proofs.LaneSums.{lanes_read}
use Rattle.dsp_sections.proofs.LadderLanes.{lanes_fit}
use Rattle.dsp_sections.proofs.LadderProducts.{high_lanes_cast, fraction_lanes_are}
use Rattle.dsp_sections.proofs.ladder_lanes.I16LadderLanes.reflected.Goals as goal

pub overflow_cast-high : goal.overflow_cast-high
overflow_cast-high g c = high_lanes_cast c.args.k c.args.values c.requires.fit_k c.requires.fit_values

pub returns-clause-value : goal.returns-clause-value
returns-clause-value g c =
    let made = fraction_lanes_are c.args.k c.args.values c.requires.fit_k c.requires.fit_values c.requires.exact in
    (lanes_read w16 _ _ made.0 made.1.0).0

pub returns-clause-fit : goal.returns-clause-fit
returns-clause-fit g c =
    let made = fraction_lanes_are c.args.k c.args.values c.requires.fit_k c.requires.fit_values c.requires.exact in
    lanes_fit w16 8 _ _ made.0 made.1
