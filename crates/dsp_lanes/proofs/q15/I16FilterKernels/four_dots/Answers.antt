use Rattle.std.proofs.Common.{◌+◌, ◌*◌, ◌∙◌, sym, rules, SFits, w32, w64}
use Rattle.std.specs.Int.{int_wrap}
use Rattle.std.proofs.lemmas.Int.{int_wrap_fits}
use Rattle.std.proofs.lemmas.List.{map-id}
use Rattle.dsp_lanes.specs.Rows.{row_at}
use Rattle.dsp_defs.proofs.FormatLemmas.{wrap-wrap}
use Rattle.dsp_lanes.proofs.DotSums.{low_read}
use Rattle.dsp_lanes.proofs.LaneClosings.{wrap-narrow}
use Rattle.dsp_lanes.proofs.PairSums.{narrow_wraps}
use Rattle.dsp_lanes.proofs.q15.I16FilterKernels.four_dots.Goals as goal

pub four_sums-requires-clause-narrows : goal.four_sums-requires-clause-narrows
four_sums-requires-clause-narrows g c = λ z. wrap-wrap _ z

pub four_sums-sums-requires-clause-narrows : goal.four_sums-sums-requires-clause-narrows
four_sums-sums-requires-clause-narrows g c = λ z. wrap-narrow z

pub four_sums-requires-else-small-clause-narrows : goal.four_sums-requires-else-small-clause-narrows
four_sums-requires-else-small-clause-narrows g c = λ z. wrap-wrap _ z

pub returns-then-small-clause-first : goal.returns-then-small-clause-first
returns-then-small-clause-first g c =
    let taps = c.args.taps.now in
    let window = c.args.window.now in
    let row = row_at taps window c.args.first in
    let low = c.low_word in
    let wide = c.from in
    let fits : SFits w64 c.four_sums-sums.result.first = search rules in
    low_read c.four_sums-sums.result.first low.result wide.result row fits low.ensures wide.ensures wide.type_inv
    low.type_inv
    (c.four_sums-sums.ensures.first ∙ (λ i. int_wrap w32 (row_at (map-id taps i) (map-id window i) c.args.first)))
    (narrow_wraps taps window c.args.first (c.requires.small c.if-small.true) c.q15_fit.ensures)
    ∙ (λ i. int_wrap w64 (row_at (sym (map-id taps) i) (sym (map-id window) i) c.args.first))

pub returns-then-small-clause-second : goal.returns-then-small-clause-second
returns-then-small-clause-second g c =
    let taps = c.args.taps.now in
    let window = c.args.window.now in
    let row = row_at taps window (c.args.first + c.args.step) in
    let low = c.low_word-then-small in
    let wide = c.from-then-small in
    let fits : SFits w64 c.four_sums-sums.result.second = search rules in
    low_read c.four_sums-sums.result.second low.result wide.result row fits low.ensures wide.ensures wide.type_inv
    low.type_inv
    (c.four_sums-sums.ensures.second ∙ (λ i. int_wrap w32
    (row_at (map-id taps i) (map-id window i) (c.args.first + c.args.step))))
    (narrow_wraps taps window (c.args.first + c.args.step) (c.requires.small c.if-small.true) c.q15_fit.ensures)
    ∙ (λ i. int_wrap w64 (row_at (sym (map-id taps) i) (sym (map-id window) i) (c.args.first + c.args.step)))

pub returns-then-small-clause-third : goal.returns-then-small-clause-third
returns-then-small-clause-third g c =
    let taps = c.args.taps.now in
    let window = c.args.window.now in
    let row = row_at taps window (c.args.first + 2 * c.args.step) in
    let low = c.low_word-then-small-2 in
    let wide = c.from-then-small-2 in
    let fits : SFits w64 c.four_sums-sums.result.third = search rules in
    low_read c.four_sums-sums.result.third low.result wide.result row fits low.ensures wide.ensures wide.type_inv
    low.type_inv
    (c.four_sums-sums.ensures.third ∙ (λ i. int_wrap w32
    (row_at (map-id taps i) (map-id window i) (c.args.first + 2 * c.args.step))))
    (narrow_wraps taps window (c.args.first + 2 * c.args.step) (c.requires.small c.if-small.true) c.q15_fit.ensures)
    ∙ (λ i. int_wrap w64 (row_at (sym (map-id taps) i) (sym (map-id window) i) (c.args.first + 2 * c.args.step)))

pub returns-then-small-clause-fourth : goal.returns-then-small-clause-fourth
returns-then-small-clause-fourth g c =
    let taps = c.args.taps.now in
    let window = c.args.window.now in
    let row = row_at taps window (c.args.first + 3 * c.args.step) in
    let low = c.low_word-then-small-3 in
    let wide = c.from-then-small-3 in
    let fits : SFits w64 c.four_sums-sums.result.fourth = search rules in
    low_read c.four_sums-sums.result.fourth low.result wide.result row fits low.ensures wide.ensures wide.type_inv
    low.type_inv
    (c.four_sums-sums.ensures.fourth ∙ (λ i. int_wrap w32
    (row_at (map-id taps i) (map-id window i) (c.args.first + 3 * c.args.step))))
    (narrow_wraps taps window (c.args.first + 3 * c.args.step) (c.requires.small c.if-small.true) c.q15_fit.ensures)
    ∙ (λ i. int_wrap w64 (row_at (sym (map-id taps) i) (sym (map-id window) i) (c.args.first + 3 * c.args.step)))

pub returns-then-this-ne8-clause-first : goal.returns-then-this-ne8-clause-first
returns-then-this-ne8-clause-first g c =
    let fits : SFits w64 c.four_sums.result.first = search rules in
    sym (int_wrap_fits w64 c.four_sums.result.first fits) ∙ c.four_sums.ensures.first

pub returns-else-small-clause-first : goal.returns-else-small-clause-first
returns-else-small-clause-first g c =
    let fits : SFits w64 c.four_sums-else-small.result.first = search rules in
    sym (int_wrap_fits w64 c.four_sums-else-small.result.first fits) ∙ c.four_sums-else-small.ensures.first

pub returns-then-this-ne8-clause-second : goal.returns-then-this-ne8-clause-second
returns-then-this-ne8-clause-second g c =
    let fits : SFits w64 c.four_sums.result.second = search rules in
    sym (int_wrap_fits w64 c.four_sums.result.second fits) ∙ c.four_sums.ensures.second

pub returns-else-small-clause-second : goal.returns-else-small-clause-second
returns-else-small-clause-second g c =
    let fits : SFits w64 c.four_sums-else-small.result.second = search rules in
    sym (int_wrap_fits w64 c.four_sums-else-small.result.second fits) ∙ c.four_sums-else-small.ensures.second

pub returns-then-this-ne8-clause-third : goal.returns-then-this-ne8-clause-third
returns-then-this-ne8-clause-third g c =
    let fits : SFits w64 c.four_sums.result.third = search rules in
    sym (int_wrap_fits w64 c.four_sums.result.third fits) ∙ c.four_sums.ensures.third

pub returns-else-small-clause-third : goal.returns-else-small-clause-third
returns-else-small-clause-third g c =
    let fits : SFits w64 c.four_sums-else-small.result.third = search rules in
    sym (int_wrap_fits w64 c.four_sums-else-small.result.third fits) ∙ c.four_sums-else-small.ensures.third

pub returns-then-this-ne8-clause-fourth : goal.returns-then-this-ne8-clause-fourth
returns-then-this-ne8-clause-fourth g c =
    let fits : SFits w64 c.four_sums.result.fourth = search rules in
    sym (int_wrap_fits w64 c.four_sums.result.fourth fits) ∙ c.four_sums.ensures.fourth

pub returns-else-small-clause-fourth : goal.returns-else-small-clause-fourth
returns-else-small-clause-fourth g c =
    let fits : SFits w64 c.four_sums-else-small.result.fourth = search rules in
    sym (int_wrap_fits w64 c.four_sums-else-small.result.fourth fits) ∙ c.four_sums-else-small.ensures.fourth
