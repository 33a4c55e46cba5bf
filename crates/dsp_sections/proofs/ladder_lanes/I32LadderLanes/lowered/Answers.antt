use Rattle.std.proofs.Common.{arith, refl, w32}
use Rattle.std.proofs.lemmas.Int.{ints}
use Rattle.dsp_sections.proofs.LadderLanes.{lanes_fit}
use Rattle.dsp_sections.proofs.LadderSections.{lowered_are}
use Rattle.dsp_sections.proofs.ladder_lanes.I32LadderLanes.lowered.Goals as goal

pub saturating_sum-requires-clause-values : goal.saturating_sum-requires-clause-values
saturating_sum-requires-clause-values c = (lanes_fit w32 4 _ c.args.products refl c.requires.fit_products).0

pub returns-clause-value : goal.returns-clause-value
returns-clause-value c =
    (lowered_are w32 4 32 c.args.values c.args.products c.saturating_sum.result (omega (arith, ints))
    c.requires.fit_values c.requires.fit_products c.saturating_sum.ensures.fit c.saturating_sum.ensures.sums).0
