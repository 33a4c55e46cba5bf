use Rattle.std.proofs.Common.{◌≡◌, ◌^◌, ◌∙◌, ℤ, List, ap, sym, subst, length, map, arith, rules, w32, w64}
use Rattle.std.proofs.lemmas.Int.{ints}
use Rattle.std.proofs.lemmas.List.{length-map, map-id}
use Rattle.std.proofs.lemmas.Simd.{shifts_fit_splat, length-chunk}
use Rattle.std.specs.Prelude.{pos, ◌+ℤ◌, ◌*ℤ◌}
use lib.Lanes.{Each1, chunk}
use lib.Signed.{shr_z}
use mir.Val.{SFits, to_z}
use Rattle.dsp_defs.specs.Elementwise.{shift_in}
use Rattle.dsp_lanes.proofs.LaneOps.{cast_lanes, group_fits, group_asked, splat_asked}
use Rattle.dsp_lanes.proofs.LaneClosings.{stored}
use Rattle.dsp_lanes.proofs.HighProducts.{scaled_highs, scaled_highs_are, casts_down}
use Rattle.dsp_lanes.proofs.Moves.{scaled_are, next_is}
use Rattle.dsp_lanes.proofs.q31.I32LaneKernels.scale_group.Goals as goal

pub overflow_cast-x : goal.overflow_cast-x
overflow_cast-x g c =
    group_asked w32 w64 (omega arith) c.args.at g.row.L c.args.a.now c.q31_fit.ensures c.requires.input

pub overflow_cast-f : goal.overflow_cast-f
overflow_cast-f g c = splat_asked w32 w64 (omega arith) g.row.L c.args.factor c.ranges.factor

pub overflow_shr-high : goal.overflow_shr-high
overflow_shr-high g c = shifts_fit_splat 64 _ g.row.L 32 (omega arith)

pub overflow_cast-high : goal.overflow_cast-high
overflow_cast-high g c =
    let n = g.row.L in
    let at = c.args.at in
    let a = c.args.a.now in
    let made = scaled_highs_are n (chunk at n a) c.args.factor (length-chunk at n a c.requires.input)
    (group_fits w32 at n a c.q31_fit.ensures c.requires.input) c.ranges.factor in
    (casts_down _ _ made.0 made.1).0

pub moved-requires : goal.moved-requires
moved-requires g c =
    let n = g.row.L in
    let at = c.args.at in
    let a = c.args.a.now in
    let xs = chunk at n a in
    let long = length-chunk at n a c.requires.input in
    let made = scaled_highs_are n xs c.args.factor long (group_fits w32 at n a c.q31_fit.ensures c.requires.input)
    c.ranges.factor in
    let is = (casts_down _ _ made.0 made.1).1 in
    let next = next_is c.args.places c.ranges.places c.requires.places in
    let long_h : length (map (to_z w32) (cast_lanes w64 w32 (scaled_highs n xs c.args.factor))) ≡ n =
    ap length is ∙ length-map xs _ ∙ long in (
      search rules,
      (
        (omega (arith, ints, next, c.requires.places), omega (arith, ints, next, c.requires.places)),
        (long_h, subst (λ (l : List ℤ). Each1 (SFits w32) l) (sym is) made.1),
      ),
    )

pub returns : goal.returns
returns g c =
    let n = g.row.L in
    let at = c.args.at in
    let a = c.args.a.now in
    let s = c.args.places in
    let t = c.args.factor in
    let xs = chunk at n a in
    let fit = group_fits w32 at n a c.q31_fit.ensures c.requires.input in
    let made = scaled_highs_are n xs t (length-chunk at n a c.requires.input) fit c.ranges.factor in
    let next = next_is s c.ranges.places c.requires.places in
    let high = map (to_z w32) (cast_lanes w64 w32 (scaled_highs n xs t)) in
    stored at c.args.out.now _ _
    (scaled_are (s +ℤ pos 1) t xs high c.moved.result fit c.ranges.factor (casts_down _ _ made.0 made.1).1
    (c.moved.ensures ∙ (λ i. map (λ h. shift_in 32 h (next i)) high))
    ∙ ap (λ l. map (λ x. shift_in 32 (shr_z (x *ℤ t) (2 ^ 32)) (s +ℤ pos 1)) (chunk at n l)) (sym (map-id a)))
