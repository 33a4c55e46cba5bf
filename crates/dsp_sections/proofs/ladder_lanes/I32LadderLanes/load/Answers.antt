use Rattle.std.proofs.Common.{◌∙◌, ap, refl, sym, w32}
use Rattle.std.proofs.lemmas.Simd.{length-chunk}
use Rattle.std.proofs.lemmas.List.{map-id}
use lib.Lanes.{chunk}
use Rattle.dsp_lanes.proofs.LaneOps.{ints_of_bits, group_fits}
use Rattle.dsp_sections.proofs.LadderLanes.{lanes_fit}
use Rattle.dsp_sections.proofs.ladder_lanes.I32LadderLanes.load.Goals as goal

pub returns-clause-value : goal.returns-clause-value
returns-clause-value c =
    let at = c.args.at in
    let numbers = c.args.numbers.now in
    ints_of_bits w32 (chunk at 4 numbers) (group_fits w32 at 4 numbers c.q31_fit.ensures c.requires.inside)
    ∙ ap (chunk at 4) (sym (map-id numbers))

pub returns-clause-fit : goal.returns-clause-fit
returns-clause-fit c =
    let at = c.args.at in
    let numbers = c.args.numbers.now in
    let fit = group_fits w32 at 4 numbers c.q31_fit.ensures c.requires.inside in
    lanes_fit w32 4 _ (chunk at 4 numbers) refl (fit, length-chunk at 4 numbers c.requires.inside)
