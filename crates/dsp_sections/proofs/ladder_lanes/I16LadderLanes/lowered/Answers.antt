use Rattle.std.proofs.Common.{arith, refl, w16}
use Rattle.std.proofs.lemmas.Int.{ints}
use Rattle.dsp_sections.proofs.LadderLanes.{lanes_fit}
use Rattle.dsp_sections.proofs.LadderSections.{lowered_are, turned_fit}
use Rattle.dsp_sections.proofs.ladder_lanes.I16LadderLanes.lowered.Goals as goal

pub saturated_sums-requires-clause-fit_x : goal.saturated_sums-requires-clause-fit_x
saturated_sums-requires-clause-fit_x c = (lanes_fit w16 8 _ c.args.products refl c.requires.fit_products).0

pub saturated_sums-requires-clause-fit_y : goal.saturated_sums-requires-clause-fit_y
saturated_sums-requires-clause-fit_y c =
    (turned_fit w16 8 c.args.values (omega (arith, ints)) c.requires.fit_values).0

pub returns-clause-value : goal.returns-clause-value
returns-clause-value c =
    (lowered_are w16 8 16 c.args.values c.args.products c.saturated_sums.result (omega (arith, ints))
    c.requires.fit_values c.requires.fit_products c.saturated_sums.ensures.fit c.saturated_sums.ensures.value).0

pub returns-clause-fit : goal.returns-clause-fit
returns-clause-fit c =
    (lowered_are w16 8 16 c.args.values c.args.products c.saturated_sums.result (omega (arith, ints))
    c.requires.fit_values c.requires.fit_products c.saturated_sums.ensures.fit c.saturated_sums.ensures.value).1
