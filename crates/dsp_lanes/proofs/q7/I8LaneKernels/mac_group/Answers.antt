use Rattle.std.proofs.Common.{arith, ap, sym, ◌∙◌, map, w8, w32, ◌*ℤ◌, ◌+ℤ◌}
use Rattle.std.specs.Int.{int_wrap}
use lib.Lanes.{zip2, chunk}
use Rattle.dsp_lanes.proofs.LaneOps.{group_fits, group_asked, splat_asked}
use Rattle.dsp_lanes.proofs.LaneSums.{multiples_added}
use Rattle.dsp_lanes.proofs.LaneClosings.{stored}
use Rattle.dsp_lanes.proofs.q7.I8LaneKernels.mac_group.Goals as goal
use Rattle.std.proofs.lemmas.List.{map-id}

pub overflow_cast-t : goal.overflow_cast-t
overflow_cast-t g c = splat_asked w8 w32 (omega arith) g.row.L c.args.tap c.ranges.tap

pub overflow_cast-x : goal.overflow_cast-x
overflow_cast-x g c = group_asked w8 w32 (omega arith) c.args.at g.row.L c.args.row.now c.q7_fit.ensures c.requires.row

pub returns : goal.returns
returns g c =
    let at = c.args.at in
    let n = g.row.L in
    let sums = c.args.sums.now in
    let row = c.args.row.now in
    stored at sums _ _
    ((multiples_added w8 w32 (omega arith) (omega arith) at n (chunk at n sums) c.args.tap row
    (group_fits w32 at n sums c.q31_fit.ensures c.requires.room) c.ranges.tap c.q7_fit.ensures c.requires.row).0
    ∙ ap (λ l. zip2 (λ s x. int_wrap w32 (s +ℤ (c.args.tap *ℤ x))) (chunk at n l) (chunk at n (map (λ x. x) row)))
    (sym (map-id sums)))
