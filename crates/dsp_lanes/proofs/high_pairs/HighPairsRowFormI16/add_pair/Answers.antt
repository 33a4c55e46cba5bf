use Rattle.std.proofs.Common.{◌+◌, ◌∙◌, ◌+ℤ◌, ◌*ℤ◌, sym, refl, arith, w64}
use Rattle.std.proofs.lemmas.Simd.{length-zip2}
use Rattle.std.proofs.lemmas.List.{map-id}
use Rattle.std.specs.Int.{int_wrap}
use lib.Lanes.{zip2, chunk}
use Rattle.dsp_defs.specs.Signal.{sample}
use Rattle.dsp_lanes.specs.HighSums.{whole_of, wholes}
use Rattle.dsp_lanes.specs.Pairs.{in_turn, four, pair_sum}
use Rattle.dsp_lanes.proofs.PairSums.{pair_at, pairs_raise}
use Rattle.dsp_lanes.proofs.HighSums.{high_sums_next, read_wrapped}
use Rattle.dsp_lanes.proofs.HighRows.{four_near}
use Rattle.dsp_lanes.proofs.high_pairs.HighPairsRowFormI16.add_pair.Goals as goal

pub returns-clause-sums : goal.returns-clause-sums
returns-clause-sums c =
    let window = c.args.window.now in
    let taps = c.args.taps.now in
    let j = c.args.j in
    let at = c.args.at in
    let sums = c.args.sums in
    let fit = c.requires.fit in
    let few = c.requires.takes in
    let inside = c.requires.taps in
    let even = high_sums_next j (j + 2) sums.even.low sums.even.high _ (four (pair_at taps window j) at) _ _ fit.0
    (omega arith) (omega (arith, few, inside)) refl
    (read_wrapped c.pair_sums.result (four (pair_at taps window j) at)
    (c.pair_sums.ensures ∙ (λ i. four (pair_sum (map-id taps i) (map-id window i) j) at)))
    (four_near taps window j at c.q15_fit.ensures c.q15_fit-2.ensures inside (omega arith)) c.raise.ensures.low
    c.raise.ensures.high in
    let odd = high_sums_next j (j + 2) sums.odd.low sums.odd.high _ (four (pair_at taps window j) (at + 1)) _ _ fit.1
    (omega arith) (omega (arith, few, inside)) refl
    (read_wrapped c.pair_sums-2.result (four (pair_at taps window j) (at + 1))
    (c.pair_sums-2.ensures ∙ (λ i. four (pair_sum (map-id taps i) (map-id window i) j) (at + 1))))
    (four_near taps window j (at + 1) c.q15_fit.ensures c.q15_fit-2.ensures inside c.requires.window)
    c.raise-2.ensures.low c.raise-2.ensures.high in
    (λ i. in_turn (even.1 i) (odd.1 i))
    ∙ pairs_raise w64 taps window (wholes sums.even.low sums.even.high) (wholes sums.odd.low sums.odd.high) j at
    (length-zip2 whole_of sums.even.low sums.even.high (fit.0.low_long ∙ sym fit.0.high_long) ∙ fit.0.low_long)
    (length-zip2 whole_of sums.odd.low sums.odd.high (fit.1.low_long ∙ sym fit.1.high_long) ∙ fit.1.low_long)
    c.requires.window
    ∙ (λ i. zip2 (λ s x. int_wrap w64 (s +ℤ (sample (sym (map-id taps) i) (j + 1) *ℤ x)))
    (zip2 (λ s x. int_wrap w64 (s +ℤ (sample (sym (map-id taps) i) j *ℤ x)))
    (in_turn (wholes sums.even.low sums.even.high) (wholes sums.odd.low sums.odd.high))
    (chunk at 8 (sym (map-id window) i))) (chunk (at + 1) 8 (sym (map-id window) i)))

pub returns-clause-fit : goal.returns-clause-fit
returns-clause-fit c =
    let window = c.args.window.now in
    let taps = c.args.taps.now in
    let j = c.args.j in
    let at = c.args.at in
    let sums = c.args.sums in
    let fit = c.requires.fit in
    let few = c.requires.takes in
    let inside = c.requires.taps in
    let even = high_sums_next j (j + 2) sums.even.low sums.even.high _ (four (pair_at taps window j) at) _ _ fit.0
    (omega arith) (omega (arith, few, inside)) refl
    (read_wrapped c.pair_sums.result (four (pair_at taps window j) at)
    (c.pair_sums.ensures ∙ (λ i. four (pair_sum (map-id taps i) (map-id window i) j) at)))
    (four_near taps window j at c.q15_fit.ensures c.q15_fit-2.ensures inside (omega arith)) c.raise.ensures.low
    c.raise.ensures.high in
    let odd = high_sums_next j (j + 2) sums.odd.low sums.odd.high _ (four (pair_at taps window j) (at + 1)) _ _ fit.1
    (omega arith) (omega (arith, few, inside)) refl
    (read_wrapped c.pair_sums-2.result (four (pair_at taps window j) (at + 1))
    (c.pair_sums-2.ensures ∙ (λ i. four (pair_sum (map-id taps i) (map-id window i) j) (at + 1))))
    (four_near taps window j (at + 1) c.q15_fit.ensures c.q15_fit-2.ensures inside c.requires.window)
    c.raise-2.ensures.low c.raise-2.ensures.high in
    (even.0, odd.0)
