use Rattle.std.proofs.Common.{◌≡◌, ◌+◌, ◌∙◌, ◌+ℤ◌, ◌*ℤ◌, sym, arith, length, pos, w16, w32, w64}
use Rattle.std.proofs.lemmas.Simd.{length-chunk, length-zip2}
use Rattle.std.proofs.lemmas.List.{map-id}
use Rattle.std.specs.Int.{int_wrap}
use lib.Lanes.{zip2, chunk}
use Rattle.dsp_defs.specs.Signal.{sample}
use Rattle.dsp_lanes.specs.HighSums.{whole_of, wholes}
use Rattle.dsp_lanes.specs.Pairs.{in_turn}
use Rattle.dsp_lanes.proofs.LaneOps.{group_asked, group_fits}
use Rattle.dsp_lanes.proofs.HighSums.{high_sums_next}
use Rattle.dsp_lanes.proofs.HighRows.{even_products, odd_products, even_read, odd_read, even_near, odd_near, tap_raises}
use Rattle.dsp_lanes.proofs.high_pairs.HighPairsRowFormI16.add_tap.Goals as goal

pub overflow_cast-products : goal.overflow_cast-products
overflow_cast-products c =
    group_asked w16 w32 (omega arith) c.args.at 8 c.args.window.now c.q15_fit-2.ensures c.requires.window

pub raise-requires-clause-more : goal.raise-requires-clause-more
raise-requires-clause-more c =
    let window = c.args.window.now in
    let taps = c.args.taps.now in
    let j = c.args.j in
    let t = sample taps j in
    let at = c.args.at in
    let xs = chunk at 8 window in
    let sums = c.args.sums in
    let fit = c.requires.fit in
    let few = c.requires.takes in
    let inside = c.requires.tap in
    let long : length xs ≡ 8 = length-chunk at 8 window c.requires.window in
    let tap_fits = c.q15_fit.ensures j (pos 0) inside in
    let window_fits = group_fits w16 at 8 window c.q15_fit-2.ensures c.requires.window in
    (even_read t xs long tap_fits window_fits).1

pub raise-requires-2-clause-more : goal.raise-requires-2-clause-more
raise-requires-2-clause-more c =
    let window = c.args.window.now in
    let taps = c.args.taps.now in
    let j = c.args.j in
    let t = sample taps j in
    let at = c.args.at in
    let xs = chunk at 8 window in
    let sums = c.args.sums in
    let fit = c.requires.fit in
    let few = c.requires.takes in
    let inside = c.requires.tap in
    let long : length xs ≡ 8 = length-chunk at 8 window c.requires.window in
    let tap_fits = c.q15_fit.ensures j (pos 0) inside in
    let window_fits = group_fits w16 at 8 window c.q15_fit-2.ensures c.requires.window in
    (odd_read t xs long tap_fits window_fits).1

pub returns-clause-sums : goal.returns-clause-sums
returns-clause-sums c =
    let window = c.args.window.now in
    let taps = c.args.taps.now in
    let j = c.args.j in
    let t = sample taps j in
    let at = c.args.at in
    let xs = chunk at 8 window in
    let sums = c.args.sums in
    let fit = c.requires.fit in
    let few = c.requires.takes in
    let inside = c.requires.tap in
    let long : length xs ≡ 8 = length-chunk at 8 window c.requires.window in
    let tap_fits = c.q15_fit.ensures j (pos 0) inside in
    let window_fits = group_fits w16 at 8 window c.q15_fit-2.ensures c.requires.window in
    let evens_near = even_near t xs long tap_fits window_fits in
    let odds_near = odd_near t xs long tap_fits window_fits in
    let even = high_sums_next j (j + 1) sums.even.low sums.even.high _ (even_products t xs long tap_fits window_fits)
    _ _ fit.0 (omega arith) (omega (arith, few, inside)) evens_near.1
    (even_read t xs long tap_fits window_fits).0 evens_near.0 c.raise.ensures.low c.raise.ensures.high in
    let odd = high_sums_next j (j + 1) sums.odd.low sums.odd.high _ (odd_products t xs long tap_fits window_fits) _ _
    fit.1 (omega arith) (omega (arith, few, inside)) odds_near.1
    (odd_read t xs long tap_fits window_fits).0 odds_near.0 c.raise-2.ensures.low c.raise-2.ensures.high in
    (λ i. in_turn (even.1 i) (odd.1 i))
    ∙ tap_raises t xs long tap_fits window_fits (wholes sums.even.low sums.even.high)
    (wholes sums.odd.low sums.odd.high)
    (length-zip2 whole_of sums.even.low sums.even.high (fit.0.low_long ∙ sym fit.0.high_long) ∙ fit.0.low_long)
    (length-zip2 whole_of sums.odd.low sums.odd.high (fit.1.low_long ∙ sym fit.1.high_long) ∙ fit.1.low_long)
    ∙ (λ i. zip2 (λ s x. int_wrap w64 (s +ℤ (sample (sym (map-id taps) i) j *ℤ x)))
    (in_turn (wholes sums.even.low sums.even.high) (wholes sums.odd.low sums.odd.high))
    (chunk at 8 (sym (map-id window) i)))

pub returns-clause-fit : goal.returns-clause-fit
returns-clause-fit c =
    let window = c.args.window.now in
    let taps = c.args.taps.now in
    let j = c.args.j in
    let t = sample taps j in
    let at = c.args.at in
    let xs = chunk at 8 window in
    let sums = c.args.sums in
    let fit = c.requires.fit in
    let few = c.requires.takes in
    let inside = c.requires.tap in
    let long : length xs ≡ 8 = length-chunk at 8 window c.requires.window in
    let tap_fits = c.q15_fit.ensures j (pos 0) inside in
    let window_fits = group_fits w16 at 8 window c.q15_fit-2.ensures c.requires.window in
    let evens_near = even_near t xs long tap_fits window_fits in
    let odds_near = odd_near t xs long tap_fits window_fits in
    let even = high_sums_next j (j + 1) sums.even.low sums.even.high _ (even_products t xs long tap_fits window_fits)
    _ _ fit.0 (omega arith) (omega (arith, few, inside)) evens_near.1
    (even_read t xs long tap_fits window_fits).0 evens_near.0 c.raise.ensures.low c.raise.ensures.high in
    let odd = high_sums_next j (j + 1) sums.odd.low sums.odd.high _ (odd_products t xs long tap_fits window_fits) _ _
    fit.1 (omega arith) (omega (arith, few, inside)) odds_near.1
    (odd_read t xs long tap_fits window_fits).0 odds_near.0 c.raise-2.ensures.low c.raise-2.ensures.high in
    (even.0, odd.0)
