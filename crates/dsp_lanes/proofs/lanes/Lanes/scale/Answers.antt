use Rattle.std.proofs.Common.{◌*◌, ◌∙◌, ap, sym, refl, arith, length, length-set, map, take}
use Rattle.std.proofs.lemmas.List.{length-map, map-set, take_all}
use mir.Val.{to_z, of_z}
use Rattle.std.proofs.lemmas.Int.{to_z-of_z}
use Rattle.dsp_defs.specs.Numbers.{w32}
use Rattle.dsp_defs.specs.Elementwise.{scale}
use Rattle.dsp_defs.proofs.SumLemmas.{sample-map}
use Rattle.dsp_lanes.proofs.Groups.{map-group, map-one, counted_double, counted_group, counted_one}
use Rattle.dsp_lanes.proofs.Groups.{counted_all, two_groups, one_group, one_product}
use Rattle.dsp_lanes.proofs.lanes.Lanes.scale.Goals as goal

pub doubles-preserved : goal.doubles-preserved
doubles-preserved g c =
    let N = g.T.Sample.number in
    let f = scale g.T.Sample.format (g.T.Sample.number c.args.factor) (to_z w32 (of_z w32 c.args.places)) in
    let long_out = length-map c.doubles.out N in
    let long_a = length-map c.args.a.now N in
    record {
      within = omega arith;
      done = map-group f c.doubles.at (2 * g.row.L) _ (map N c.doubles.out) (map N c.args.a.now)
          (omega arith) (omega arith)
          c.doubles.invariant.done c.scale_double.ensures;
      counted = counted_double _ _ _ 1 g.row.L c.doubles.at c.doubles.invariant.counted
          (two_groups _ _ g.row.L c.count.ensures);
    }

pub groups-preserved : goal.groups-preserved
groups-preserved g c =
    let N = g.T.Sample.number in
    let f = scale g.T.Sample.format (g.T.Sample.number c.args.factor) (to_z w32 (of_z w32 c.args.places)) in
    let long_out = length-map c.groups.out N in
    let long_a = length-map c.args.a.now N in
    record {
      within = omega arith;
      done = map-group f c.groups.at g.row.L _ (map N c.groups.out) (map N c.args.a.now) (omega arith) (omega arith)
          c.groups.invariant.done c.scale_group.ensures;
      counted = counted_group _ _ _ 1 g.row.L c.groups.at c.groups.invariant.counted
          (one_group _ _ g.row.L c.count-in-groups.ensures);
    }

pub rest-preserved : goal.rest-preserved
rest-preserved g c =
    let N = g.T.Sample.number in
    let f = scale g.T.Sample.format (g.T.Sample.number c.args.factor) (to_z w32 (of_z w32 c.args.places)) in
    let at = c.rest.at in
    let long_out = length-map c.rest.out N in
    let long_a = length-map c.args.a.now N in
    let long_set = length-set c.rest.out at c.scale.result in
    record {
      within = omega arith;
      started = omega arith;
      done =
          ap (take _) (map-set N c.rest.out at c.scale.result)
          ∙ map-one f at _ (map N c.rest.out) (map N c.args.a.now) (N c.scale.result) refl (omega arith) (omega arith)
          c.rest.invariant.done
          (c.scale.ensures.value ∙ ap f (sample-map N c.args.a.now at c.index-a-at.result (omega arith)
          c.index-a-at.is));
      counted = counted_one _ _ _ 1 c.groups.at at _ (omega arith) refl c.rest.invariant.counted
          (one_product _ _ c.scale.ensures.steps);
    }

pub returns-clause-out : goal.returns-clause-out
returns-clause-out g c =
    let N = g.T.Sample.number in
    let f = scale g.T.Sample.format (g.T.Sample.number c.args.factor) (to_z w32 (of_z w32 c.args.places)) in
    let long_out = length-map c.rest.out N in
    let long_a = length-map c.args.a.now N in
    sym (take_all c.rest.at (map N c.rest.out) (omega arith)) ∙ c.rest.invariant.done ∙
    ap (map f) (take_all c.rest.at (map N c.args.a.now) (omega arith)) ∙
    ap (λ p. map (scale g.T.Sample.format (N c.args.factor) p) (map N c.args.a.now))
    (to_z-of_z w32 c.args.places c.ranges.places)

pub returns-clause-steps : goal.returns-clause-steps
returns-clause-steps g c =
    let n = g.row.L in
    let total = length c.args.out.now in
    let whole = counted_all c.args.steps.now c.groups.steps c.rest.steps 1 n c.groups.at c.rest.at total
    g.T.LaneSample.some c.groups.invariant.counted (omega arith) (omega arith) (omega arith)
    c.rest.invariant.counted in
    record { multiplies_rise = omega (arith, whole); turns_within = omega (arith, whole) }
