use Rattle.std.proofs.Common.{◌≡◌, ◌∙◌, ◌+ℤ◌, ◌*ℤ◌, ◌+◌, ap, length, sym, w32, w64}
use Rattle.std.proofs.lemmas.Simd.{length-chunk}
use Rattle.std.proofs.lemmas.List.{map-id}
use Rattle.std.specs.Int.{int_wrap}
use lib.Lanes.{chunk}
use Rattle.dsp_defs.specs.Signal.{sample, sum_below}
use Rattle.dsp_lanes.specs.Regrouped.{list_sum}
use Rattle.dsp_lanes.proofs.LaneOps.{group_fits}
use Rattle.dsp_lanes.proofs.LaneRows.{products-chunk}
use Rattle.dsp_lanes.proofs.HalfProducts.{product_words_are, product_words_fit}
use Rattle.dsp_lanes.proofs.WordViews.{read_fit, read_long}
use Rattle.dsp_lanes.proofs.halves.EightHalvesDotFormI32.add_products.Goals as goal

pub even_words-requires-clause-long : goal.even_words-requires-clause-long
even_words-requires-clause-long c = read_long w32 8 _ (length-chunk c.args.at 8 c.args.taps.now c.requires.taps)

pub even_words-requires-2-clause-long : goal.even_words-requires-2-clause-long
even_words-requires-2-clause-long c = read_long w32 8 _
    (length-chunk c.args.at 8 c.args.window.now c.requires.window)

pub odd_words-requires-clause-long : goal.odd_words-requires-clause-long
odd_words-requires-clause-long c = read_long w32 8 _ (length-chunk c.args.at 8 c.args.taps.now c.requires.taps)

pub odd_words-requires-2-clause-long : goal.odd_words-requires-2-clause-long
odd_words-requires-2-clause-long c = read_long w32 8 _
    (length-chunk c.args.at 8 c.args.window.now c.requires.window)

pub even_words-requires-clause-fit : goal.even_words-requires-clause-fit
even_words-requires-clause-fit c = read_fit w32 (chunk c.args.at 8 c.args.taps.now)
    (group_fits w32 c.args.at 8 c.args.taps.now c.q31_fit.ensures c.requires.taps)

pub even_words-requires-2-clause-fit : goal.even_words-requires-2-clause-fit
even_words-requires-2-clause-fit c = read_fit w32 (chunk c.args.at 8 c.args.window.now)
    (group_fits w32 c.args.at 8 c.args.window.now c.q31_fit-2.ensures c.requires.window)

pub odd_words-requires-clause-fit : goal.odd_words-requires-clause-fit
odd_words-requires-clause-fit c = read_fit w32 (chunk c.args.at 8 c.args.taps.now)
    (group_fits w32 c.args.at 8 c.args.taps.now c.q31_fit.ensures c.requires.taps)

pub odd_words-requires-2-clause-fit : goal.odd_words-requires-2-clause-fit
odd_words-requires-2-clause-fit c = read_fit w32 (chunk c.args.at 8 c.args.window.now)
    (group_fits w32 c.args.at 8 c.args.window.now c.q31_fit-2.ensures c.requires.window)

pub returns-clause-sums : goal.returns-clause-sums
returns-clause-sums c =
    let at = c.args.at in
    let taps = c.args.taps.now in
    let window = c.args.window.now in
    let even = c.args.sums.even in
    let odd = c.args.sums.odd in
    let fit = c.requires.fit in
    let long_t : length (chunk at 8 taps) ≡ 8 = length-chunk at 8 taps c.requires.taps in
    let long_w : length (chunk at 8 window) ≡ 8 = length-chunk at 8 window c.requires.window in
    product_words_are even odd (chunk at 8 taps) (chunk at 8 window) c.even_words.result c.odd_words.result
    c.even_words-2.result c.odd_words-2.result fit.2 fit.3 long_t long_w fit.0 fit.1
    (group_fits w32 at 8 taps c.q31_fit.ensures c.requires.taps)
    (group_fits w32 at 8 window c.q31_fit-2.ensures c.requires.window)
    c.even_words.ensures.words c.odd_words.ensures.words c.even_words-2.ensures.words c.odd_words-2.ensures.words
    ∙ ap (λ z. int_wrap w64 ((list_sum even +ℤ list_sum odd) +ℤ z))
    (products-chunk at 8 taps window c.requires.taps c.requires.window)
    ∙ (λ i. int_wrap w64 ((list_sum even +ℤ list_sum odd) +ℤ sum_below 8
    (λ k. sample (sym (map-id taps) i) (at + k) *ℤ sample (sym (map-id window) i) (at + k))))

pub returns-clause-fit : goal.returns-clause-fit
returns-clause-fit c =
    let at = c.args.at in
    let taps = c.args.taps.now in
    let window = c.args.window.now in
    let fit = c.requires.fit in
    let long_t : length (chunk at 8 taps) ≡ 8 = length-chunk at 8 taps c.requires.taps in
    let long_w : length (chunk at 8 window) ≡ 8 = length-chunk at 8 window c.requires.window in
    product_words_fit c.args.sums.even c.args.sums.odd (chunk at 8 taps) (chunk at 8 window) c.even_words.result
    c.odd_words.result c.even_words-2.result c.odd_words-2.result fit.2 fit.3 long_t long_w fit.0 fit.1
    (group_fits w32 at 8 taps c.q31_fit.ensures c.requires.taps)
    (group_fits w32 at 8 window c.q31_fit-2.ensures c.requires.window)
    c.even_words.ensures.words c.odd_words.ensures.words c.even_words-2.ensures.words c.odd_words-2.ensures.words
