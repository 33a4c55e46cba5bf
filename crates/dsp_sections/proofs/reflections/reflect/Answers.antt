use Rattle.std.proofs.Common.{◌∙◌, ◌∷◌, ◌+◌, ◌≤◌, ◌+ℤ◌, length, map, replicate, pos, ap, refl, get_or, arith, rules}
use Rattle.std.proofs.Common.{w16, w32, to_z, of_z}
use Rattle.std.proofs.lemmas.Int.{to_z-of_z}
use Rattle.std.proofs.lemmas.Simd.{length-chunk, Each1-get_or, Each1-replicate}
use Rattle.dsp_defs.specs.Signal.{sample}
use Rattle.dsp_lanes.proofs.LaneOps.{ints_of_bits}
use mir.Val.{SFits}
use lib.Lanes.{zip2}
use Rattle.dsp_defs.specs.Numbers.{floor_shift, saturate}
use Rattle.dsp_sections.specs.Reflected.{reflected}
use Rattle.dsp_sections.proofs.LadderLanes.{lanes_fit}
use Rattle.dsp_sections.proofs.ReflectedGroups.{eight-more, one-more, all-forward, all-backward}
use Rattle.dsp_sections.proofs.reflections.reflect.Goals as goal

pub groups-init : goal.groups-init
groups-init g c =
    let befores = replicate 8 c.args.before in
    let are = lanes_fit w16 8 _ befores refl (Each1-replicate (SFits w16) 8 c.args.before c.ranges.before, refl) in
    (search rules, (search rules, are))

pub groups-preserved : goal.groups-preserved
groups-preserved g c =
    let at = c.groups.at in
    let so_far = c.groups.invariant.0 in
    let steps = c.groups.invariant.1.0 in
    let lanes = c.reflect_group-lanes.result in
    let made = c.reflect_group-lanes.ensures in
    let room : at + 8 ≤ length c.groups.backward = search rules in
    let stored = ints_of_bits w16 lanes made.fit ∙ made.value in (
      eight-more _ _ _ _ c.groups.forward c.groups.backward _ at c.requires c.groups.auto.forward
          c.groups.auto.backward so_far
          c.reflect_group-lanes.new.forward c.reflect_group-lanes.new.backward _ (at + 8) refl
          (omega (arith, so_far.within)) made.forward made.backward (ap (λ l. sample l 7) stored),
      (
        record {
          multiplies_rise = omega (arith, steps, made.steps);
          turns_rise = omega (arith, steps, made.steps);
        },
        lanes_fit w16 8 _ lanes refl (made.fit, ap length made.value ∙ length-chunk at 8 c.groups.backward room),
      ),
    )

pub reflect_group-lanes-requires-clause-long : goal.reflect_group-lanes-requires-clause-long
reflect_group-lanes-requires-clause-long g c = c.groups.invariant.1.1.1

pub reflect_group-lanes-requires-clause-fit : goal.reflect_group-lanes-requires-clause-fit
reflect_group-lanes-requires-clause-fit g c = c.groups.invariant.1.1.0

pub rest-init : goal.rest-init
rest-init g c =
    let lanes = map (to_z w16) c.groups.lanes in
    let so_far = c.groups.invariant.0 in
    let are = c.groups.invariant.1.1 in
    let fits : SFits w16 (sample lanes 7) = Each1-get_or (SFits w16) lanes 7 (pos 0) (omega (arith, are.1)) are.0 in (
      record {
        within = so_far.within;
        forward = so_far.forward;
        backward = so_far.backward;
        forward_rest = so_far.forward_rest;
        backward_rest = so_far.backward_rest;
        last_is = to_z-of_z w16 (sample lanes 7) fits ∙ so_far.last_is;
      },
      c.groups.invariant.1.0,
    )

pub rest-preserved : goal.rest-preserved
rest-preserved g c =
    let at = c.rest.at in
    let f = get_or c.rest.forward at (pos 0) in
    let b = get_or c.rest.backward at (pos 0) in
    let fits_f : SFits w16 f = search rules in
    let fits_b : SFits w16 b = search rules in
    let fits_down : SFits w32 c.product-down.result = search rules in
    let fits_up : SFits w32 c.product-up.result = search rules in
    let fits_raised : SFits w16 c.reflected_value.result = search rules in
    let fits_lowered : SFits w16 c.reflected_value-in-rest.result = search rules in
    let raised =
    to_z-of_z w16 c.reflected_value.result fits_raised
    ∙ c.reflected_value.ensures
    ∙ ap (λ p. saturate 16 (floor_shift p 15 +ℤ to_z w16 (of_z w16 f)))
    (to_z-of_z w32 c.product-down.result fits_down ∙ c.product-down.ensures.value) in
    let lowered =
    to_z-of_z w16 c.reflected_value-in-rest.result fits_lowered
    ∙ c.reflected_value-in-rest.ensures
    ∙ ap (λ p. saturate 16 (floor_shift p 15 +ℤ to_z w16 c.rest.last-bits))
    (to_z-of_z w32 c.product-up.result fits_up ∙ c.product-up.ensures.value) in (
      one-more _ _ _ _ c.rest.forward c.rest.backward _ at c.requires (c.rest.auto.forward ∙ c.groups.auto.forward)
          (c.rest.auto.backward ∙ c.groups.auto.backward) c.rest.invariant.0
          _ _ _ _ (at + 1) refl (omega arith) (to_z-of_z w16 f fits_f) (to_z-of_z w16 b fits_b) raised lowered,
      record {
        multiplies_rise = omega (arith, c.rest.invariant.1, c.product-down.ensures.steps, c.product-up.ensures.steps);
        turns_rise = omega (arith, c.rest.invariant.1, c.product-down.ensures.steps, c.product-up.ensures.steps);
      },
    )

pub returns-clause-forward : goal.returns-clause-forward
returns-clause-forward g c =
    let long = c.rest.auto.forward ∙ c.groups.auto.forward in
    all-forward _ _ c.args.forward.now c.args.backward.now c.rest.forward c.rest.backward _ c.rest.at c.requires
    (omega (arith, long)) c.rest.invariant.0 long
    ∙ (λ i. zip2 (λ f g. reflected (to_z-of_z w16 c.args.k c.ranges.k i) g f) c.args.forward.now
    (to_z-of_z w16 c.args.before c.ranges.before i ∷ c.args.backward.now))

pub returns-clause-backward : goal.returns-clause-backward
returns-clause-backward g c =
    let long = c.rest.auto.forward ∙ c.groups.auto.forward in
    all-backward _ _ c.args.forward.now c.args.backward.now c.rest.forward c.rest.backward _ c.rest.at c.requires
    (omega (arith, long)) c.rest.invariant.0 (c.rest.auto.backward ∙ c.groups.auto.backward)
    ∙ (λ i. zip2 (λ f g. reflected (to_z-of_z w16 c.args.k c.ranges.k i) f g) c.args.forward.now
    (to_z-of_z w16 c.args.before c.ranges.before i ∷ c.args.backward.now))
