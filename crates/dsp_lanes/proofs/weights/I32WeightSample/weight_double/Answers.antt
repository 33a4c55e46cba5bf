use Rattle.std.proofs.Common.{◌∙◌, ◌^◌, arith, map, sym, to_z, of_z, w32}
use Rattle.std.proofs.Math.IntN.{*ℤ_comm}
use Rattle.std.proofs.lemmas.Simd.{length-chunk}
use Rattle.std.proofs.lemmas.List.{map-id}
use lib.Lanes.{chunk, zip2}
use lib.Signed.{shr_z}
use Rattle.dsp_defs.specs.Adaptive.{weight_after}
use Rattle.dsp_defs.specs.declared.format.Fmt.TheVariants.{Q31}
use Rattle.dsp_lanes.proofs.LaneClosings.{stored}
use Rattle.dsp_lanes.proofs.LaneOps.{bits_of, group_fits, ints_of_bits}
use Rattle.dsp_lanes.proofs.WeightLanes.{doubled_fit, grown_31_is}
use Rattle.dsp_lanes.proofs.WordViews.{read_fit, read_long}
use Rattle.dsp_lanes.proofs.weights.I32WeightSample.weight_double.Goals as goal

pub high_products-high-requires-clause-fit : goal.high_products-high-requires-clause-fit
high_products-high-requires-clause-fit c = read_fit w32 (chunk c.args.at 8 c.args.window.now)
    (group_fits w32 c.args.at 8 c.args.window.now c.q31_fit.ensures c.requires.window)

pub high_products-high-requires-clause-long : goal.high_products-high-requires-clause-long
high_products-high-requires-clause-long c = read_long w32 8 (chunk c.args.at 8 c.args.window.now)
    (length-chunk c.args.at 8 c.args.window.now c.requires.window)

pub saturating_lanes-requires : goal.saturating_lanes-requires
saturating_lanes-requires c =
    let weights = c.args.weights.now in
    let fit = group_fits w32 c.args.at 8 weights c.q31_fit-2.ensures c.requires.room in (
      omega arith,
      (
        read_fit w32 (chunk c.args.at 8 weights) fit,
        (
          doubled_fit c.high_products-high.result c.high_products-high.ensures.fit,
          read_long w32 8 (chunk c.args.at 8 weights) (length-chunk c.args.at 8 weights c.requires.room),
        ),
      ),
    )

pub returns : goal.returns
returns c =
    let at = c.args.at in
    let window = c.args.window.now in
    let weights = c.args.weights.now in
    let high = c.high_products-high in
    let sums = c.saturating_lanes in
    stored at weights _ _
    (ints_of_bits w32 sums.result sums.ensures.fit
    ∙ grown_31_is (chunk at 8 weights) (chunk at 8 window) high.result sums.result c.args.alpha c.ranges.alpha
    (group_fits w32 at 8 weights c.q31_fit-2.ensures c.requires.room)
    (group_fits w32 at 8 window c.q31_fit.ensures c.requires.window)
    high.ensures.fit
    (high.ensures.words ∙ (λ i. map (λ x. shr_z (*ℤ_comm x (to_z w32 (of_z w32 c.args.alpha)) i) (2 ^ 32))
    (map (to_z w32) (bits_of w32 (chunk at 8 window)))))
    sums.ensures.sums
    ∙ (λ i. zip2 (weight_after Q31 c.args.alpha) (chunk at 8 (sym (map-id weights) i))
    (chunk at 8 (sym (map-id window) i))))
