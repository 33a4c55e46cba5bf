use Rattle.std.proofs.Common.{◌≡◌, ◌*◌, ◌∙◌, ap, sym, refl, arith, length, length-set, map, take}
use Rattle.std.proofs.lemmas.List.{length-map, map-set, take_all}
use Rattle.dsp_defs.specs.Formats.{close}
use Rattle.dsp_defs.specs.Signal.{values}
use Rattle.dsp_defs.proofs.FormatLemmas.{close-wrap}
use Rattle.dsp_lanes.specs.Rows.{row}
use Rattle.dsp_lanes.proofs.LaneRows.{rows-group, rows-one}
use Rattle.dsp_lanes.proofs.Groups.{counted_quad, counted_double, counted_group, counted_one, counted_all}
use Rattle.dsp_lanes.proofs.lanes.Lanes.rows.Goals as goal

pub quads-preserved : goal.quads-preserved
quads-preserved g c =
    let T = g.T.Sample in
    let taps = map T.number c.args.taps.now in
    let window = map T.number c.args.window.now in
    let at = c.quads.at in
    let n = g.row.L in
    let long = length-map c.quads.out T.number in
    record {
      within = omega arith;
      done = rows-group (λ i. close T.format (row taps window (length c.args.taps.now) i)) at (4 * n) _
          (map T.number c.quads.out) (omega arith) c.quads.invariant.done c.quad_group.ensures.out;
      counted = counted_quad _ _ _ (length c.args.taps.now) n at c.quads.invariant.counted
          c.quad_group.ensures.steps;
    }

pub doubles-preserved : goal.doubles-preserved
doubles-preserved g c =
    let T = g.T.Sample in
    let taps = map T.number c.args.taps.now in
    let window = map T.number c.args.window.now in
    let at = c.doubles.at in
    let n = g.row.L in
    let long = length-map c.doubles.out T.number in
    record {
      within = omega arith;
      done = rows-group (λ i. close T.format (row taps window (length c.args.taps.now) i)) at (2 * n) _
          (map T.number c.doubles.out) (omega arith) c.doubles.invariant.done c.double_group.ensures.out;
      counted = counted_double _ _ _ (length c.args.taps.now) n at c.doubles.invariant.counted
          c.double_group.ensures.steps;
    }

pub groups-preserved : goal.groups-preserved
groups-preserved g c =
    let T = g.T.Sample in
    let taps = map T.number c.args.taps.now in
    let window = map T.number c.args.window.now in
    let at = c.groups.at in
    let n = g.row.L in
    let long = length-map c.groups.out T.number in
    record {
      within = omega arith;
      done = rows-group (λ i. close T.format (row taps window (length c.args.taps.now) i)) at n _
          (map T.number c.groups.out) (omega arith) c.groups.invariant.done c.row_group.ensures.out;
      counted = counted_group _ _ _ (length c.args.taps.now) n at c.groups.invariant.counted c.row_group.ensures.steps;
    }

pub rest-preserved : goal.rest-preserved
rest-preserved g c =
    let T = g.T.Sample in
    let taps = map T.number c.args.taps.now in
    let window = map T.number c.args.window.now in
    let at = c.rest.at in
    let long = length-map c.rest.out T.number in
    let long_set = length-set c.rest.out at c.close.result in
    let sum = row taps window (length c.args.taps.now) at in
    record {
      within = omega arith;
      started = omega arith;
      done =
          ap (take _) (map-set T.number c.rest.out at c.close.result)
          ∙ rows-one (λ i. close T.format (row taps window (length c.args.taps.now) i)) at _ (map T.number c.rest.out)
          (T.number c.close.result) refl (omega arith) c.rest.invariant.done
          (c.close.ensures ∙ ap (close T.format) c.row_sum.ensures.sum ∙ close-wrap T.format sum);
      counted = counted_one _ _ _ (length c.args.taps.now) c.groups.at at _ (omega arith) refl
          c.rest.invariant.counted c.row_sum.ensures.steps;
    }

pub returns-clause-out : goal.returns-clause-out
returns-clause-out g c =
    let T = g.T.Sample in
    let taps = map T.number c.args.taps.now in
    let window = map T.number c.args.window.now in
    let long = length-map c.rest.out T.number in
    let long_t = length-map c.args.taps.now T.number in
    let all : c.rest.at ≡ length c.args.out.now = omega arith in
    sym (take_all c.rest.at (map T.number c.rest.out) (omega arith))
    ∙ c.rest.invariant.done
    ∙ (λ k. values (all k) (λ i. close T.format (row taps window (sym long_t k) i)))

pub returns-clause-steps : goal.returns-clause-steps
returns-clause-steps g c =
    counted_all c.args.steps.now c.groups.steps c.rest.steps (length c.args.taps.now) g.row.L c.groups.at c.rest.at
    (length c.args.out.now) g.T.LaneSample.some c.groups.invariant.counted (omega arith) (omega arith) (omega arith)
    c.rest.invariant.counted
