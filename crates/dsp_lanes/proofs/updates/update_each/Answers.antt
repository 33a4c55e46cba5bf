use Rattle.std.proofs.Common.{◌≡◌, ◌*◌, ◌∙◌, ap, sym, refl, arith, length, length-set, map, take, drop}
use Rattle.std.proofs.lemmas.List.{length-map, map-set, take_all}
use lib.Lanes.{zip2, chunk, put_chunk}
use Rattle.dsp_defs.proofs.SumLemmas.{sample-map}
use Rattle.std.proofs.lemmas.Simd.{length-zip2, length-chunk}
use Rattle.dsp_lanes.proofs.Groups.{zip2-group, zip2-one, rest-group, rest-one, rest-sample, counted_double, counted_group}
use Rattle.dsp_lanes.proofs.Groups.{counted_one, counted_all, one_group, two_groups, one_product}
use Rattle.dsp_lanes.specs.Turns.{lane_turns}
use Rattle.dsp_lanes.proofs.updates.update_each.Goals as goal

pub doubles-preserved : goal.doubles-preserved
doubles-preserved g c =
    let N = g.T.Sample.number in
    let S = g.U.Update.number in
    let f = g.U.Update.next c.args.factor in
    let at = c.doubles.at in
    let m = c.size-size.result in
    let n = 2 * m in
    let size_is = sym c.size-size.ensures in
    let first = map S c.args.slots.now in
    let window = map N c.args.window.now in
    let long_sums = length-map c.doubles.slots S in
    let long_first = length-map c.args.slots.now S in
    let long_window = length-map c.args.window.now N in
    let chunk_s : length (chunk at n first) ≡ n = length-chunk at n first (omega arith) in
    let chunk_w : length (chunk at n window) ≡ n = length-chunk at n window (omega arith) in
    let long : length (zip2 f (chunk at n first) (chunk at n window)) ≡ n =
    length-zip2 f (chunk at n first) (chunk at n window) (omega arith) ∙ chunk_s in
    let is = c.double.ensures
    ∙ (λ i. put_chunk at (map S c.doubles.slots) (zip2 f (chunk at (2 * size_is i) (map S c.doubles.slots))
    (chunk at (2 * size_is i) window)))
    ∙ ap (λ l. put_chunk at (map S c.doubles.slots) (zip2 f (take n l) (chunk at n window))) c.doubles.invariant.left in
    record {
      within = omega arith;
      left = rest-group at n _ (map S c.doubles.slots) first (zip2 f (chunk at n first) (chunk at n window)) long
          (omega arith) c.doubles.invariant.left is;
      done = zip2-group f at n _ (map S c.doubles.slots) first window (omega arith) (omega arith) (omega arith)
          c.doubles.invariant.done is;
      counted = counted_double _ _ _ 1 m at c.doubles.invariant.counted (two_groups _ _ m c.count.ensures);
    }

pub groups-preserved : goal.groups-preserved
groups-preserved g c =
    let N = g.T.Sample.number in
    let S = g.U.Update.number in
    let f = g.U.Update.next c.args.factor in
    let at = c.groups.at in
    let n = c.size-size.result in
    let size_is = sym c.size-size.ensures in
    let first = map S c.args.slots.now in
    let window = map N c.args.window.now in
    let long_sums = length-map c.groups.slots S in
    let long_first = length-map c.args.slots.now S in
    let long_window = length-map c.args.window.now N in
    let chunk_s : length (chunk at n first) ≡ n = length-chunk at n first (omega arith) in
    let chunk_w : length (chunk at n window) ≡ n = length-chunk at n window (omega arith) in
    let long : length (zip2 f (chunk at n first) (chunk at n window)) ≡ n =
    length-zip2 f (chunk at n first) (chunk at n window) (omega arith) ∙ chunk_s in
    let is = c.group.ensures
    ∙ (λ i. put_chunk at (map S c.groups.slots) (zip2 f (chunk at (size_is i) (map S c.groups.slots))
    (chunk at (size_is i) window)))
    ∙ ap (λ l. put_chunk at (map S c.groups.slots) (zip2 f (take n l) (chunk at n window))) c.groups.invariant.left in
    record {
      within = omega arith;
      left = rest-group at n _ (map S c.groups.slots) first (zip2 f (chunk at n first) (chunk at n window)) long
          (omega arith) c.groups.invariant.left is;
      done = zip2-group f at n _ (map S c.groups.slots) first window (omega arith) (omega arith) (omega arith)
          c.groups.invariant.done is;
      counted = counted_group _ _ _ 1 n at c.groups.invariant.counted (one_group _ _ n c.count-in-groups.ensures);
    }

pub rest-preserved : goal.rest-preserved
rest-preserved g c =
    let N = g.T.Sample.number in
    let S = g.U.Update.number in
    let f = g.U.Update.next c.args.factor in
    let at = c.rest.at in
    let v = c.one.result in
    let first = map S c.args.slots.now in
    let window = map N c.args.window.now in
    let long_sums = length-map c.rest.slots S in
    let long_first = length-map c.args.slots.now S in
    let long_window = length-map c.args.window.now N in
    let long_set = length-set c.rest.slots at v in
    let slot_is = sample-map S c.rest.slots at c.index-slots-at.result (omega arith) c.index-slots-at.is ∙
    rest-sample at (map S c.rest.slots) first c.rest.invariant.left in
    let sample_is = sample-map N c.args.window.now at c.index-window-at.result (omega arith) c.index-window-at.is in
    record {
      within = omega arith;
      started = omega arith;
      left = ap (drop _) (map-set S c.rest.slots at v) ∙
          rest-one at _ (map S c.rest.slots) first (S v) refl c.rest.invariant.left;
      done =
          ap (take _) (map-set S c.rest.slots at v)
          ∙ zip2-one f at _ (map S c.rest.slots) first window (S v) refl (omega arith) (omega arith) (omega arith)
          c.rest.invariant.done
          (c.one.ensures.value ∙ (λ i. f (slot_is i) (sample_is i)));
      counted = counted_one _ _ _ 1 c.groups.at at _ (omega arith) refl c.rest.invariant.counted
          (one_product _ _ c.one.ensures.steps);
    }

pub returns-clause-slots : goal.returns-clause-slots
returns-clause-slots g c =
    let N = g.T.Sample.number in
    let S = g.U.Update.number in
    let f = g.U.Update.next c.args.factor in
    let long_sums = length-map c.rest.slots S in
    let long_first = length-map c.args.slots.now S in
    let long_window = length-map c.args.window.now N in
    sym (take_all c.rest.at (map S c.rest.slots) (omega arith)) ∙ c.rest.invariant.done ∙
    (λ k. zip2 f (take_all c.rest.at (map S c.args.slots.now) (omega arith) k)
    (take_all c.rest.at (map N c.args.window.now) (omega arith) k))

pub returns-clause-steps : goal.returns-clause-steps
returns-clause-steps g c =
    let n = c.size-size.result in
    let some = g.met.U.Update.some in
    let is = c.size-size.ensures in
    let total = length c.args.slots.now in
    let whole = counted_all c.args.steps.now c.groups.steps c.rest.steps 1 n c.groups.at c.rest.at total
    (omega (arith, some, is)) c.groups.invariant.counted (omega arith) (omega arith) (omega arith)
    c.rest.invariant.counted in
    let turns = ap (λ m. lane_turns m total) is in
    record { multiplies_rise = omega (arith, whole); turns_within = omega (arith, whole, turns) }
