use Rattle.std.proofs.Common.{◌≡◌, ◌+◌, ◌≤◌, ◌∙◌, ◌+ℤ◌, ◌*ℤ◌, arith, get_or, length, pos, sym, w32, w64}
use Rattle.std.proofs.lemmas.Simd.{length-chunk}
use Rattle.std.proofs.lemmas.List.{map-id}
use Rattle.std.specs.Int.{int_wrap}
use lib.Lanes.{zip2, chunk}
use Rattle.dsp_defs.specs.Signal.{sample}
use Rattle.dsp_lanes.specs.Pairs.{in_turn}
use Rattle.dsp_lanes.proofs.LaneOps.{group_fits}
use Rattle.dsp_lanes.proofs.HalfProducts.{next_evens, tapped_in_turn}
use Rattle.dsp_lanes.proofs.WordViews.{evens_are, odds_are, read_fit, read_long}
use Rattle.dsp_lanes.proofs.halves.EightHalvesRowFormI32.add_pair.Goals as goal

pub even_words-shared-requires-clause-long : goal.even_words-shared-requires-clause-long
even_words-shared-requires-clause-long c = read_long w32 8 _
    (length-chunk (c.args.at + 1) 8 c.args.window.now c.requires.window)

pub even_words-shared-requires-clause-fit : goal.even_words-shared-requires-clause-fit
even_words-shared-requires-clause-fit c = read_fit w32 (chunk (c.args.at + 1) 8 c.args.window.now)
    (group_fits w32 (c.args.at + 1) 8 c.args.window.now c.q31_fit-2.ensures c.requires.window)

pub even_words-requires-clause-long : goal.even_words-requires-clause-long
even_words-requires-clause-long c = read_long w32 8 _
    (length-chunk c.args.at 8 c.args.window.now (omega (arith, c.requires.window)))

pub even_words-requires-clause-fit : goal.even_words-requires-clause-fit
even_words-requires-clause-fit c = read_fit w32 (chunk c.args.at 8 c.args.window.now)
    (group_fits w32 c.args.at 8 c.args.window.now c.q31_fit-2.ensures (omega (arith, c.requires.window)))

pub odd_words-requires-clause-long : goal.odd_words-requires-clause-long
odd_words-requires-clause-long c = read_long w32 8 _
    (length-chunk (c.args.at + 1) 8 c.args.window.now c.requires.window)

pub odd_words-requires-clause-fit : goal.odd_words-requires-clause-fit
odd_words-requires-clause-fit c = read_fit w32 (chunk (c.args.at + 1) 8 c.args.window.now)
    (group_fits w32 (c.args.at + 1) 8 c.args.window.now c.q31_fit-2.ensures c.requires.window)

pub returns-clause-sums : goal.returns-clause-sums
returns-clause-sums c =
    let at = c.args.at in
    let j = c.args.j in
    let taps = c.args.taps.now in
    let window = c.args.window.now in
    let even = c.args.sums.even in
    let odd = c.args.sums.odd in
    let sums = c.requires.fit in
    let first = c.add_words-sums in
    let now = chunk at 8 window in
    let next = chunk (at + 1) 8 window in
    let room : at + 8 ≤ length window = omega (arith, c.requires.window) in
    let long_now : length now ≡ 8 = length-chunk at 8 window room in
    let long_next : length next ≡ 8 = length-chunk (at + 1) 8 window c.requires.window in
    let fit_now = group_fits w32 at 8 window c.q31_fit-2.ensures room in
    let fit_next = group_fits w32 (at + 1) 8 window c.q31_fit-2.ensures c.requires.window in
    let between = evens_are next _ long_next fit_next c.even_words-shared.ensures.words in
    tapped_in_turn first.result.even first.result.odd next c.even_words-shared.result c.odd_words.result _ _
    (get_or taps (j + 1) (pos 0)) first.ensures.fit.2 first.ensures.fit.3 long_next
    (c.q31_fit.ensures (j + 1) (pos 0) (omega (arith, c.requires.taps))) c.even_words-shared.ensures.fit
    c.odd_words.ensures.fit between (odds_are next _ long_next fit_next c.odd_words.ensures.words)
    c.add_words.ensures.evens c.add_words.ensures.odds
    ∙ (λ i. zip2 (λ s x. int_wrap w64 (s +ℤ (sample (sym (map-id taps) i) (j + 1) *ℤ x)))
    ((tapped_in_turn even odd now c.even_words.result c.even_words-shared.result _ _ (get_or taps j (pos 0)) sums.2
    sums.3 long_now (c.q31_fit.ensures j (pos 0) (omega (arith, c.requires.taps))) c.even_words.ensures.fit
    c.even_words-shared.ensures.fit
    (evens_are now _ long_now fit_now c.even_words.ensures.words)
    (between ∙ next_evens at window (omega (arith, c.requires.window)))
    first.ensures.evens first.ensures.odds
    ∙ (λ k. zip2 (λ s x. int_wrap w64 (s +ℤ (sample (sym (map-id taps) k) j *ℤ x))) (in_turn even odd)
    (chunk at 8 (sym (map-id window) k)))) i)
    (chunk (at + 1) 8 (sym (map-id window) i)))
