use Rattle.std.proofs.Common.{◌∙◌, sym, w32}
use Rattle.std.proofs.lemmas.Simd.{length-chunk}
use Rattle.std.proofs.lemmas.List.{map-id}
use lib.Lanes.{chunk, zip2}
use Rattle.dsp_defs.specs.Adaptive.{weight_after}
use Rattle.dsp_defs.specs.declared.format.Fmt.TheVariants.{Q31}
use Rattle.dsp_lanes.proofs.LaneClosings.{stored}
use Rattle.dsp_lanes.proofs.LaneOps.{group_fits, ints_of_bits}
use Rattle.dsp_lanes.proofs.WeightLanes.{doubled_fit, grown_31_is}
use Rattle.dsp_lanes.proofs.WordViews.{read_fit, read_long}
use Rattle.dsp_lanes.proofs.weights.I32WeightSample.weight_group.Goals as goal

pub returns : goal.returns
returns c =
    let at = c.args.at in
    let window = c.args.window.now in
    let weights = c.args.weights.now in
    let high = c.high_words-high in
    let sums = c.saturating_sum in
    stored at weights _ _
    (ints_of_bits w32 sums.result sums.ensures.fit
    ∙ grown_31_is (chunk at 4 weights) (chunk at 4 window) high.result sums.result c.args.alpha c.ranges.alpha
    (group_fits w32 at 4 weights c.q31_fit-2.ensures c.requires.room)
    (group_fits w32 at 4 window c.q31_fit.ensures c.requires.window)
    high.ensures.fit high.ensures.words sums.ensures.sums
    ∙ (λ i. zip2 (weight_after Q31 c.args.alpha) (chunk at 4 (sym (map-id weights) i))
    (chunk at 4 (sym (map-id window) i))))

pub high_words-high-requires-clause-fit : goal.high_words-high-requires-clause-fit
high_words-high-requires-clause-fit c = read_fit w32 (chunk c.args.at 4 c.args.window.now)
    (group_fits w32 c.args.at 4 c.args.window.now c.q31_fit.ensures c.requires.window)

pub high_words-high-requires-clause-long : goal.high_words-high-requires-clause-long
high_words-high-requires-clause-long c = read_long w32 4 (chunk c.args.at 4 c.args.window.now)
    (length-chunk c.args.at 4 c.args.window.now c.requires.window)

pub saturating_sum-requires-clause-values : goal.saturating_sum-requires-clause-values
saturating_sum-requires-clause-values c = read_fit w32 (chunk c.args.at 4 c.args.weights.now)
    (group_fits w32 c.args.at 4 c.args.weights.now c.q31_fit-2.ensures c.requires.room)

pub saturating_sum-requires-clause-changes : goal.saturating_sum-requires-clause-changes
saturating_sum-requires-clause-changes c = doubled_fit c.high_words-high.result c.high_words-high.ensures.fit

pub saturating_sum-requires-clause-long : goal.saturating_sum-requires-clause-long
saturating_sum-requires-clause-long c = read_long w32 4 (chunk c.args.at 4 c.args.weights.now)
    (length-chunk c.args.at 4 c.args.weights.now c.requires.room)
