use Rattle.std.proofs.Common.{◌∙◌, sym, arith, w16, w32}
use Rattle.std.proofs.lemmas.Simd.{length-chunk}
use Rattle.std.proofs.lemmas.List.{map-id}
use lib.Lanes.{chunk, zip2}
use Rattle.dsp_defs.specs.Adaptive.{weight_after}
use Rattle.dsp_defs.specs.declared.format.Fmt.TheVariants.{Q15}
use Rattle.dsp_lanes.proofs.LaneClosings.{stored}
use Rattle.dsp_lanes.proofs.LaneOps.{group_asked, group_fits}
use Rattle.dsp_lanes.proofs.WeightLanes.{grown_15_is}
use Rattle.dsp_lanes.proofs.weights.I16WeightSample.weight_group.Goals as goal

pub overflow_cast-x : goal.overflow_cast-x
overflow_cast-x c = group_asked w16 w32 (omega arith) c.args.at 8 c.args.window.now c.q15_fit.ensures c.requires.window

pub overflow_cast-w : goal.overflow_cast-w
overflow_cast-w c = group_asked w16 w32 (omega arith) c.args.at 8 c.args.weights.now c.q15_fit-2.ensures c.requires.room

pub overflow_cast-weights : goal.overflow_cast-weights
overflow_cast-weights c =
    let at = c.args.at in
    let window = c.args.window.now in
    let weights = c.args.weights.now in
    (grown_15_is (chunk at 8 weights) (chunk at 8 window) c.args.alpha (length-chunk at 8 weights c.requires.room)
    (length-chunk at 8 window c.requires.window) c.ranges.alpha
    (group_fits w16 at 8 weights c.q15_fit-2.ensures c.requires.room)
    (group_fits w16 at 8 window c.q15_fit.ensures c.requires.window)).0

pub returns : goal.returns
returns c =
    let at = c.args.at in
    let window = c.args.window.now in
    let weights = c.args.weights.now in
    let grown = grown_15_is (chunk at 8 weights) (chunk at 8 window) c.args.alpha
    (length-chunk at 8 weights c.requires.room) (length-chunk at 8 window c.requires.window) c.ranges.alpha
    (group_fits w16 at 8 weights c.q15_fit-2.ensures c.requires.room)
    (group_fits w16 at 8 window c.q15_fit.ensures c.requires.window) in
    stored at weights _ _
    (grown.1 ∙ (λ i. zip2 (weight_after Q15 c.args.alpha) (chunk at 8 (sym (map-id weights) i))
    (chunk at 8 (sym (map-id window) i))))
