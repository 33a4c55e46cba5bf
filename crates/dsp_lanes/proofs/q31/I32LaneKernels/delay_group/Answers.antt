use Rattle.std.proofs.Common.{arith, ap, sym, ◌∙◌, ◌+ℤ◌, w32, w64}
use Rattle.std.proofs.lemmas.Simd.{shifts_fit_splat, length-chunk}
use Rattle.std.proofs.lemmas.List.{map-id}
use Rattle.std.specs.Int.{int_wrap}
use lib.Lanes.{zip2, chunk, put_chunk}
use Rattle.dsp_lanes.proofs.LaneOps.{group_fits, group_asked, splat_asked}
use Rattle.dsp_lanes.proofs.HighProducts.{high, delay_31, delay_asked}
use Rattle.dsp_lanes.proofs.q31.I32LaneKernels.delay_group.Goals as goal

pub overflow_cast-t : goal.overflow_cast-t
overflow_cast-t g c = splat_asked w32 w64 (omega arith) g.row.L c.args.tap c.ranges.tap

pub overflow_cast-x : goal.overflow_cast-x
overflow_cast-x g c =
    group_asked w32 w64 (omega arith) c.args.at g.row.L c.args.window.now c.q31_fit.ensures c.requires.window

pub overflow_shr-terms : goal.overflow_shr-terms
overflow_shr-terms g c = shifts_fit_splat 64 _ g.row.L 32 (omega arith)

pub overflow_cast-terms : goal.overflow_cast-terms
overflow_cast-terms g c =
    let at = c.args.at in
    let n = g.row.L in
    let window = c.args.window.now in
    delay_asked n c.args.tap (chunk at n window) (length-chunk at n window c.requires.window) c.ranges.tap
    (group_fits w32 at n window c.q31_fit.ensures c.requires.window)

pub returns : goal.returns
returns g c =
    let at = c.args.at in
    let n = g.row.L in
    let sums = c.args.sums.now in
    let window = c.args.window.now in
    ap (put_chunk at sums)
    (delay_31 n c.args.tap (chunk at n window) (length-chunk at n window c.requires.window) c.ranges.tap
    (group_fits w32 at n window c.q31_fit.ensures c.requires.window) (chunk at n sums)
    (group_fits w32 at n sums c.q31_fit-2.ensures c.requires.room)
    ∙ ap (λ l. zip2 (λ s x. int_wrap w32 (s +ℤ high c.args.tap x)) (chunk at n sums) (chunk at n l))
    (sym (map-id window)))
