use Rattle.std.proofs.Common.{◌≡◌, ◌∙◌, ◌+ℤ◌, ◌*ℤ◌, ◌+◌, ap, arith, length, map, pos, subst, sym, ℤ, w16, w32, w64}
use Rattle.std.proofs.lemmas.Int.{ints, SFits-int_wrap, wrapping_add_is}
use Rattle.std.proofs.lemmas.Simd.{length-chunk}
use Rattle.std.proofs.lemmas.List.{map-id}
use Rattle.std.specs.Int.{int_wrap}
use lib.Lanes.{chunk}
use mir.Val.{SFits, to_z}
use Rattle.dsp_defs.specs.Signal.{sample, sum_below}
use Rattle.dsp_lanes.specs.Regrouped.{list_sum}
use Rattle.dsp_lanes.proofs.LaneOps.{group_asked, group_fits}
use Rattle.dsp_lanes.proofs.LaneRows.{products-chunk}
use Rattle.dsp_lanes.proofs.ProductPairs.{less_lanes, less_sum, less_lanes_fit}
use Rattle.dsp_lanes.proofs.pair_dots.PairDotsDotFormI16.add_products.Goals as goal

pub overflow_cast-t : goal.overflow_cast-t
overflow_cast-t c = group_asked w16 w32 (omega arith) c.args.at 8 c.args.taps.now c.q15_fit.ensures c.requires.taps

pub overflow_cast-x : goal.overflow_cast-x
overflow_cast-x c =
    group_asked w16 w32 (omega arith) c.args.at 8 c.args.window.now c.q15_fit-2.ensures c.requires.window

pub returns-clause-sums : goal.returns-clause-sums
returns-clause-sums c =
    let at = c.args.at in
    let taps = c.args.taps.now in
    let window = c.args.window.now in
    let less = c.args.sums.less in
    let count = c.args.sums.pairs in
    let fit = c.requires.fit in
    let ts = chunk at 8 taps in
    let xs = chunk at 8 window in
    let long_t : length ts ≡ 8 = length-chunk at 8 taps c.requires.taps in
    let long_x : length xs ≡ 8 = length-chunk at 8 window c.requires.window in
    ap (λ z. int_wrap w64 (list_sum (map (to_z w64) (less_lanes less ts xs)) +ℤ z))
    (wrapping_add_is w64 count (pos 4) fit.2 (omega (arith, ints)))
    ∙ less_sum ts xs long_t long_x (group_fits w16 at 8 taps c.q15_fit.ensures c.requires.taps)
    (group_fits w16 at 8 window c.q15_fit-2.ensures c.requires.window) less count fit.0 fit.1
    ∙ ap (λ z. int_wrap w64 ((list_sum less +ℤ count) +ℤ z))
    (products-chunk at 8 taps window c.requires.taps c.requires.window)
    ∙ (λ i. int_wrap w64 ((list_sum less +ℤ count) +ℤ sum_below 8
    (λ k. sample (sym (map-id taps) i) (at + k) *ℤ sample (sym (map-id window) i) (at + k))))

pub returns-clause-fit : goal.returns-clause-fit
returns-clause-fit c =
    let at = c.args.at in
    let taps = c.args.taps.now in
    let window = c.args.window.now in
    let count = c.args.sums.pairs in
    let fit = c.requires.fit in
    let ts = chunk at 8 taps in
    let xs = chunk at 8 window in
    let long_t : length ts ≡ 8 = length-chunk at 8 taps c.requires.taps in
    let long_x : length xs ≡ 8 = length-chunk at 8 window c.requires.window in
    let sums = less_lanes_fit ts xs long_t long_x (group_fits w16 at 8 taps c.q15_fit.ensures c.requires.taps)
    (group_fits w16 at 8 window c.q15_fit-2.ensures c.requires.window) c.args.sums.less fit.0 fit.1 in
    let counted = wrapping_add_is w64 count (pos 4) fit.2 (omega (arith, ints)) in
    (sums.0, sums.1, subst (λ (z : ℤ). SFits w64 z) (sym counted) (SFits-int_wrap w64 (count +ℤ pos 4)))
