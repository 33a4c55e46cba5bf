use Rattle.std.proofs.Common.{◌≡◌, ◌∙◌, ◌+ℤ◌, ◌*ℤ◌, get_or, length, pos, sym, w32, w64}
use Rattle.std.proofs.lemmas.Simd.{length-chunk}
use Rattle.std.proofs.lemmas.List.{map-id}
use Rattle.std.specs.Int.{int_wrap}
use lib.Lanes.{zip2, chunk}
use Rattle.dsp_defs.specs.Signal.{sample}
use Rattle.dsp_lanes.specs.Pairs.{in_turn}
use Rattle.dsp_lanes.proofs.LaneOps.{group_fits}
use Rattle.dsp_lanes.proofs.HalfProducts.{tapped_in_turn}
use Rattle.dsp_lanes.proofs.WordViews.{evens_are, odds_are, read_fit, read_long}
use Rattle.dsp_lanes.proofs.halves.EightHalvesRowFormI32.add_tap.Goals as goal

pub even_words-requires-clause-long : goal.even_words-requires-clause-long
even_words-requires-clause-long c = read_long w32 8 _ (length-chunk c.args.at 8 c.args.window.now c.requires.window)

pub odd_words-requires-clause-long : goal.odd_words-requires-clause-long
odd_words-requires-clause-long c = read_long w32 8 _ (length-chunk c.args.at 8 c.args.window.now c.requires.window)

pub even_words-requires-clause-fit : goal.even_words-requires-clause-fit
even_words-requires-clause-fit c = read_fit w32 (chunk c.args.at 8 c.args.window.now)
    (group_fits w32 c.args.at 8 c.args.window.now c.q31_fit-2.ensures c.requires.window)

pub odd_words-requires-clause-fit : goal.odd_words-requires-clause-fit
odd_words-requires-clause-fit c = read_fit w32 (chunk c.args.at 8 c.args.window.now)
    (group_fits w32 c.args.at 8 c.args.window.now c.q31_fit-2.ensures c.requires.window)

pub returns-clause-sums : goal.returns-clause-sums
returns-clause-sums c =
    let at = c.args.at in
    let j = c.args.j in
    let taps = c.args.taps.now in
    let window = c.args.window.now in
    let even = c.args.sums.even in
    let odd = c.args.sums.odd in
    let sums = c.requires.fit in
    let long : length (chunk at 8 window) ≡ 8 = length-chunk at 8 window c.requires.window in
    let fit = group_fits w32 at 8 window c.q31_fit-2.ensures c.requires.window in
    tapped_in_turn even odd (chunk at 8 window) c.even_words.result c.odd_words.result _ _ (get_or taps j (pos 0))
    sums.2 sums.3 long (c.q31_fit.ensures j (pos 0) c.requires.tap) c.even_words.ensures.fit c.odd_words.ensures.fit
    (evens_are (chunk at 8 window) _ long fit c.even_words.ensures.words)
    (odds_are (chunk at 8 window) _ long fit c.odd_words.ensures.words)
    c.add_words.ensures.evens c.add_words.ensures.odds
    ∙ (λ i. zip2 (λ s x. int_wrap w64 (s +ℤ (sample (sym (map-id taps) i) j *ℤ x))) (in_turn even odd)
    (chunk at 8 (sym (map-id window) i)))
