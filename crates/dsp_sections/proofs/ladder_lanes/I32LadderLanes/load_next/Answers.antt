use Rattle.std.proofs.Common.{◌+◌, ◌∙◌, ap, sym, get_or, pos, arith, w32}
use Rattle.std.proofs.lemmas.Simd.{length-chunk}
use Rattle.std.proofs.lemmas.List.{map-id}
use lib.Lanes.{chunk}
use Rattle.dsp_lanes.proofs.LaneOps.{bits_of, group_fits}
use Rattle.dsp_lanes.proofs.LaneSums.{lanes_read}
use Rattle.dsp_sections.proofs.LadderLanes.{next_of_four, next_group}
use Rattle.dsp_sections.proofs.ladder_lanes.I32LadderLanes.load_next.Goals as goal

pub returns-clause-value : goal.returns-clause-value
returns-clause-value c =
    let at = c.args.at in
    let numbers = c.args.numbers.now in
    let last = get_or numbers (at + 4) (pos 0) in
    let fit = group_fits w32 (at + 1) 4 numbers c.q31_fit.ensures (omega (arith, c.requires.inside)) in
    (lanes_read w32 _ (chunk (at + 1) 4 numbers)
    (next_of_four w32 last (chunk at 4 numbers) (length-chunk at 4 numbers (omega (arith, c.requires.inside)))
    ∙ ap (bits_of w32) (next_group at 4 numbers (omega arith) c.requires.inside)) fit).0
    ∙ ap (chunk (at + 1) 4) (sym (map-id numbers))
