use Rattle.std.proofs.Common.{◌≡◌, ◌+◌, ◌∙◌, ap, subst, refl, arith, length, map, ◌+ℤ◌, ◌*ℤ◌}
use Rattle.dsp_defs.specs.Numbers.{wrap, Width}
use Rattle.dsp_defs.specs.Formats.{accumulator}
use Rattle.dsp_defs.specs.Signal.{sample, sum_below}
use Rattle.dsp_defs.proofs.SumLemmas.{sample-map}
use Rattle.dsp_defs.proofs.SumLemmas.{wrapped_sum-more}
use Rattle.dsp_lanes.proofs.DotSums.{group-more}
use Rattle.dsp_lanes.proofs.Groups.{counted_group, counted_one, counted_all, one_group, one_product}
use Rattle.dsp_lanes.specs.Turns.{lane_turns}
use Rattle.dsp_lanes.proofs.dots.dot_groups.Goals as goal

pub groups-init : goal.groups-init
groups-init g c = record {
  within = omega arith;
  fit = c.no_sums-sums.ensures.fit;
  done = ap (wrap (accumulator g.T.Sample.format)) c.no_sums-sums.ensures.sums;
  counted = (0, omega arith, record { multiplies_rise = omega arith; turns_within = omega arith });
}

pub groups-preserved : goal.groups-preserved
groups-preserved g c =
    let T = g.T.Sample in
    let F = g.F.DotForm in
    let at = c.groups.at in
    let taps = map T.number c.args.taps.now in
    let window = map T.number c.args.window.now in
    let next = sum_below F.size (λ k. sample taps (at + k) *ℤ sample window (at + k)) in
    let sums = c.add_products-sums in
    let summed = subst (λ (w : Width). wrap w (F.value sums.result) ≡ wrap w (F.value c.groups.sums +ℤ next))
    c.requires.width sums.ensures.sums in
    record {
      within = omega arith;
      fit = sums.ensures.fit;
      done = group-more (accumulator T.format) at F.size _ taps window _ _ (ap (λ k. at + k) c.size-size.ensures)
          summed c.groups.invariant.done;
      counted = counted_group _ _ _ 1 c.size-size.result at c.groups.invariant.counted
          (one_group _ _ c.size-size.result c.count.ensures);
    }

pub rest-init : goal.rest-init
rest-init g c = record {
  within = omega arith;
  started = omega arith;
  done = c.total-sum.ensures ∙ ap (λ (w : Width). wrap w (g.F.DotForm.value c.groups.sums)) c.requires.width ∙
      c.groups.invariant.done;
  counted = record { multiplies_rise = omega arith; turns_rise = omega arith };
}

pub rest-preserved : goal.rest-preserved
rest-preserved g c =
    let T = g.T.Sample in
    let at = c.rest.at in
    record {
      within = omega arith;
      started = omega arith;
      done =
          wrapped_sum-more (accumulator T.format) at _ (map T.number c.args.taps.now) (map T.number c.args.window.now)
          _ _ (T.total c.rest.sum) _ refl
          (sample-map T.number c.args.taps.now at c.index-taps-at.result (omega arith) c.index-taps-at.is)
          (sample-map T.number c.args.window.now at c.index-window-at.result (omega arith) c.index-window-at.is)
          c.rest.invariant.done
          (c.accumulate-sum.ensures ∙ ap (λ p. wrap (accumulator T.format) (T.total c.rest.sum +ℤ p))
          c.product-product.ensures.value);
      counted = counted_one _ _ _ 1 c.groups.at at _ (omega arith) refl c.rest.invariant.counted
          (one_product _ _ c.product-product.ensures.steps);
    }

pub returns-clause-steps : goal.returns-clause-steps
returns-clause-steps g c =
    let n = c.size-size.result in
    let some = c.requires.some in
    let is = c.size-size.ensures in
    let total = length c.args.taps.now in
    let whole = counted_all c.args.steps.now c.groups.steps c.rest.steps 1 n c.groups.at c.rest.at total
    (omega (arith, some, is)) c.groups.invariant.counted (omega arith) (omega arith) (omega arith)
    c.rest.invariant.counted in
    let turns = ap (λ m. lane_turns m total) is in
    record { multiplies_rise = omega (arith, whole); turns_within = omega (arith, whole, turns) }
