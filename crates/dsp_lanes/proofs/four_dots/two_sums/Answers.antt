use Rattle.std.proofs.Common.{◌≡◌, ◌+◌, ◌∙◌, ap, refl, arith, length, map, ℕ, ℤ}
use Rattle.std.proofs.lemmas.List.{length-map}
use Rattle.dsp_defs.specs.Numbers.{wrap}
use Rattle.dsp_defs.specs.Formats.{accumulator}
use Rattle.dsp_defs.proofs.FormatLemmas.{wrap-wrap}
use Rattle.dsp_lanes.specs.Rows.{row}
use Rattle.dsp_lanes.specs.Turns.{lane_turns}
use Rattle.dsp_lanes.proofs.DotSums.{both_groups, both_products}
use Rattle.dsp_lanes.proofs.Groups.{counted_group, counted_one, counted_all}
use Rattle.dsp_lanes.proofs.LaneRows.{row-grown}
use Rattle.dsp_lanes.proofs.four_dots.two_sums.Goals as goal

pub groups-init : goal.groups-init
groups-init g c =
    let wrapped = wrap g.F.DotForm.width in
    record {
      within = omega arith;
      fit_one = c.no_sums-one.ensures.fit;
      fit_other = c.no_sums-other.ensures.fit;
      one = ap wrapped c.no_sums-one.ensures.sums;
      other = ap wrapped c.no_sums-other.ensures.sums;
      counted = (0, omega arith, record { multiplies_rise = omega arith; turns_within = omega arith });
    }

pub groups-preserved : goal.groups-preserved
groups-preserved g c =
    let T = g.T.Sample in
    let F = g.F.DotForm in
    let at = c.groups.at in
    let taps = map T.number c.args.taps.now in
    let window = map T.number c.args.window.now in
    let so_far = c.groups.invariant in
    let row_from : ℕ → ℕ → ℤ = λ place n. wrap F.width (row taps window n place) in
    let next : at + F.size ≡ at + c.size-size.result = omega (arith, c.size-size.ensures) in
    record {
      within = omega arith;
      fit_one = c.add_group-one.ensures.fit;
      fit_other = c.add_group-other.ensures.fit;
      one = c.add_group-one.ensures.sums so_far.one ∙ ap (row_from c.args.first) next;
      other = c.add_group-other.ensures.sums so_far.other ∙ ap (row_from c.args.second) next;
      counted = counted_group _ _ _ 2 c.size-size.result at so_far.counted
          (both_groups _ _ _ F.size c.size-size.result c.size-size.ensures c.add_group-one.ensures.steps
          c.add_group-other.ensures.steps);
    }

pub rest-init : goal.rest-init
rest-init g c =
    let w = g.F.DotForm.width in
    record {
      within = omega arith;
      started = omega arith;
      one = ap (wrap w) c.total-sum.ensures ∙ wrap-wrap w _ ∙ c.groups.invariant.one;
      other = ap (wrap w) c.total-other_sum.ensures ∙ wrap-wrap w _ ∙ c.groups.invariant.other;
      counted = record { multiplies_rise = omega arith; turns_rise = omega arith };
    }

pub rest-preserved : goal.rest-preserved
rest-preserved g c =
    let w = g.F.DotForm.width in
    let v = accumulator g.T.Sample.format in
    let at = c.rest.at in
    let so_far = c.rest.invariant in
    record {
      within = omega arith;
      started = omega arith;
      one = row-grown w v c.requires.narrows _ at _ _ _ _ c.add_one-sum.ensures.sum so_far.one;
      other = row-grown w v c.requires.narrows _ at _ _ _ _ c.add_one-other_sum.ensures.sum so_far.other;
      counted = counted_one _ _ _ 2 c.groups.at at _ (omega arith) refl so_far.counted
          (both_products _ _ _ c.add_one-sum.ensures.steps c.add_one-other_sum.ensures.steps);
    }

pub returns-clause-first : goal.returns-clause-first
returns-clause-first g c =
    let T = g.T.Sample in
    let taps = map T.number c.args.taps.now in
    let all : c.rest.at ≡ length taps = omega (arith, length-map c.args.taps.now T.number) in
    c.rest.invariant.one
    ∙ ap (λ n. wrap g.F.DotForm.width (row taps (map T.number c.args.window.now) n c.args.first)) all

pub returns-clause-second : goal.returns-clause-second
returns-clause-second g c =
    let T = g.T.Sample in
    let taps = map T.number c.args.taps.now in
    let all : c.rest.at ≡ length taps = omega (arith, length-map c.args.taps.now T.number) in
    c.rest.invariant.other
    ∙ ap (λ n. wrap g.F.DotForm.width (row taps (map T.number c.args.window.now) n c.args.second)) all

pub returns-clause-steps : goal.returns-clause-steps
returns-clause-steps g c =
    let n = c.size-size.result in
    let some = c.requires.some in
    let is = c.size-size.ensures in
    let total = length c.args.taps.now in
    let whole = counted_all c.args.steps.now c.groups.steps c.rest.steps 2 n c.groups.at c.rest.at total
    (omega (arith, some, is)) c.groups.invariant.counted (omega arith) (omega arith) (omega arith)
    c.rest.invariant.counted in
    let turns = ap (λ m. lane_turns m total) is in
    record { multiplies_rise = omega (arith, whole); turns_within = omega (arith, whole, turns) }
