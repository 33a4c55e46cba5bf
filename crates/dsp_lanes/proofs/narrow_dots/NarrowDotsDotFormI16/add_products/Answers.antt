use Rattle.std.proofs.Common.{◌∙◌, ◌+ℤ◌, ◌*ℤ◌, ◌+◌, ap, arith, sym, w16, w32}
use Rattle.std.proofs.lemmas.Simd.{length-chunk}
use Rattle.std.proofs.lemmas.List.{map-id}
use Rattle.std.specs.Int.{int_wrap}
use lib.Lanes.{chunk}
use Rattle.dsp_defs.specs.Signal.{sample, sum_below}
use Rattle.dsp_lanes.specs.Regrouped.{list_sum}
use Rattle.dsp_lanes.proofs.LaneOps.{group_asked, group_fits}
use Rattle.dsp_lanes.proofs.LaneRows.{products-chunk}
use Rattle.dsp_lanes.proofs.NarrowSums.{narrow_sum, narrow_fit}
use Rattle.dsp_lanes.proofs.narrow_dots.NarrowDotsDotFormI16.add_products.Goals as goal

pub overflow_cast-t : goal.overflow_cast-t
overflow_cast-t c = group_asked w16 w32 (omega arith) c.args.at 8 c.args.taps.now c.q15_fit.ensures c.requires.taps

pub overflow_cast-x : goal.overflow_cast-x
overflow_cast-x c =
    group_asked w16 w32 (omega arith) c.args.at 8 c.args.window.now c.q15_fit-2.ensures c.requires.window

pub returns-clause-sums : goal.returns-clause-sums
returns-clause-sums c =
    let at = c.args.at in
    let taps = c.args.taps.now in
    let window = c.args.window.now in
    let sums = c.args.sums in
    let fit = c.requires.fit in
    narrow_sum sums (chunk at 8 taps) (chunk at 8 window) (length-chunk at 8 taps c.requires.taps)
    (length-chunk at 8 window c.requires.window)
    (group_fits w16 at 8 taps c.q15_fit.ensures c.requires.taps)
    (group_fits w16 at 8 window c.q15_fit-2.ensures c.requires.window) fit.0 fit.1
    ∙ ap (λ z. int_wrap w32 (list_sum sums +ℤ z)) (products-chunk at 8 taps window c.requires.taps c.requires.window)
    ∙ (λ i. int_wrap w32 (list_sum sums +ℤ sum_below 8 (λ k. sample (sym (map-id taps) i) (at + k) *ℤ sample
    (sym (map-id window) i) (at + k))))

pub returns-clause-fit : goal.returns-clause-fit
returns-clause-fit c =
    let at = c.args.at in
    let taps = c.args.taps.now in
    let window = c.args.window.now in
    let fit = c.requires.fit in
    narrow_fit c.args.sums (chunk at 8 taps) (chunk at 8 window) (length-chunk at 8 taps c.requires.taps)
    (length-chunk at 8 window c.requires.window)
    (group_fits w16 at 8 taps c.q15_fit.ensures c.requires.taps)
    (group_fits w16 at 8 window c.q15_fit-2.ensures c.requires.window) fit.0 fit.1
