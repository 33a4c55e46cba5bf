use Rattle.std.proofs.Common.{◌∙◌, ap, refl, sym, w16}
use Rattle.std.proofs.lemmas.Simd.{length-chunk}
use Rattle.std.proofs.lemmas.List.{map-id}
use lib.Lanes.{chunk}
use Rattle.dsp_lanes.proofs.LaneOps.{ints_of_bits, group_fits}
use Rattle.dsp_sections.proofs.LadderLanes.{lanes_fit}
use Rattle.dsp_sections.proofs.ladder_lanes.I16LadderLanes.load.Goals as goal

pub returns-clause-value : goal.returns-clause-value
returns-clause-value c =
    let at = c.args.at in
    let numbers = c.args.numbers.now in
    ints_of_bits w16 (chunk at 8 numbers) (group_fits w16 at 8 numbers c.q15_fit.ensures c.requires.inside)
    ∙ ap (chunk at 8) (sym (map-id numbers))

pub returns-clause-fit : goal.returns-clause-fit
returns-clause-fit c =
    let at = c.args.at in
    let numbers = c.args.numbers.now in
    let fit = group_fits w16 at 8 numbers c.q15_fit.ensures c.requires.inside in
    lanes_fit w16 8 _ (chunk at 8 numbers) refl (fit, length-chunk at 8 numbers c.requires.inside)
