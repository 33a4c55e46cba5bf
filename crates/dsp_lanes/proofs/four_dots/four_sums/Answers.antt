use Rattle.std.proofs.Common.{◌≡◌, ◌+◌, ◌*◌, ◌∙◌, ap, refl, arith, length, map, ℕ, ℤ}
use Rattle.std.proofs.lemmas.List.{length-map}
use Rattle.dsp_defs.specs.Numbers.{wrap}
use Rattle.dsp_defs.specs.Formats.{accumulator}
use Rattle.dsp_defs.proofs.FormatLemmas.{wrap-wrap}
use Rattle.dsp_lanes.specs.Rows.{row}
use Rattle.dsp_lanes.specs.Turns.{lane_turns}
use Rattle.dsp_lanes.proofs.DotSums.{four_groups, four_products}
use Rattle.dsp_lanes.proofs.Groups.{counted_group, counted_one, counted_all}
use Rattle.dsp_lanes.proofs.LaneRows.{row-grown}
use Rattle.dsp_lanes.proofs.four_dots.four_sums.Goals as goal

pub groups-init : goal.groups-init
groups-init g c =
    let wrapped = wrap g.F.DotForm.width in
    record {
      within = omega arith;
      fit_first = c.no_sums.ensures.fit;
      fit_second = c.no_sums-2.ensures.fit;
      fit_third = c.no_sums-3.ensures.fit;
      fit_fourth = c.no_sums-4.ensures.fit;
      first = ap wrapped c.no_sums.ensures.sums;
      second = ap wrapped c.no_sums-2.ensures.sums;
      third = ap wrapped c.no_sums-3.ensures.sums;
      fourth = ap wrapped c.no_sums-4.ensures.sums;
      counted = (0, omega arith, record { multiplies_rise = omega arith; turns_within = omega arith });
    }

pub groups-preserved : goal.groups-preserved
groups-preserved g c =
    let T = g.T.Sample in
    let F = g.F.DotForm in
    let at = c.groups.at in
    let taps = map T.number c.args.taps.now in
    let window = map T.number c.args.window.now in
    let so_far = c.groups.invariant in
    let row_from : ℕ → ℕ → ℤ = λ place n. wrap F.width (row taps window n place) in
    let next : at + F.size ≡ at + c.size-size.result = omega (arith, c.size-size.ensures) in
    record {
      within = omega arith;
      fit_first = c.add_group.ensures.fit;
      fit_second = c.add_group-in-groups.ensures.fit;
      fit_third = c.add_group-in-groups-2.ensures.fit;
      fit_fourth = c.add_group-in-groups-3.ensures.fit;
      first = c.add_group.ensures.sums so_far.first ∙ ap (row_from c.args.first) next;
      second = c.add_group-in-groups.ensures.sums so_far.second ∙ ap (row_from (c.args.first + c.args.step)) next;
      third = c.add_group-in-groups-2.ensures.sums so_far.third ∙ ap (row_from (c.args.first + 2 * c.args.step)) next;
      fourth = c.add_group-in-groups-3.ensures.sums so_far.fourth ∙ ap (row_from (c.args.first + 3 * c.args.step)) next;
      counted = counted_group _ _ _ 4 c.size-size.result at so_far.counted
          (four_groups _ _ _ _ _ F.size c.size-size.result c.size-size.ensures c.add_group.ensures.steps
          c.add_group-in-groups.ensures.steps c.add_group-in-groups-2.ensures.steps
          c.add_group-in-groups-3.ensures.steps);
    }

pub rest-init : goal.rest-init
rest-init g c =
    let w = g.F.DotForm.width in
    record {
      within = omega arith;
      started = omega arith;
      first = ap (wrap w) c.total.ensures ∙ wrap-wrap w _ ∙ c.groups.invariant.first;
      second = ap (wrap w) c.total-2.ensures ∙ wrap-wrap w _ ∙ c.groups.invariant.second;
      third = ap (wrap w) c.total-3.ensures ∙ wrap-wrap w _ ∙ c.groups.invariant.third;
      fourth = ap (wrap w) c.total-4.ensures ∙ wrap-wrap w _ ∙ c.groups.invariant.fourth;
      counted = record { multiplies_rise = omega arith; turns_rise = omega arith };
    }

pub rest-preserved : goal.rest-preserved
rest-preserved g c =
    let w = g.F.DotForm.width in
    let v = accumulator g.T.Sample.format in
    let at = c.rest.at in
    let so_far = c.rest.invariant in
    record {
      within = omega arith;
      started = omega arith;
      first = row-grown w v c.requires.narrows _ at _ _ _ _ c.add_one.ensures.sum so_far.first;
      second = row-grown w v c.requires.narrows _ at _ _ _ _ c.add_one-in-rest.ensures.sum so_far.second;
      third = row-grown w v c.requires.narrows _ at _ _ _ _ c.add_one-in-rest-2.ensures.sum so_far.third;
      fourth = row-grown w v c.requires.narrows _ at _ _ _ _ c.add_one-in-rest-3.ensures.sum so_far.fourth;
      counted = counted_one _ _ _ 4 c.groups.at at _ (omega arith) refl so_far.counted
          (four_products _ _ _ _ _ c.add_one.ensures.steps c.add_one-in-rest.ensures.steps
          c.add_one-in-rest-2.ensures.steps c.add_one-in-rest-3.ensures.steps);
    }

pub returns-clause-first : goal.returns-clause-first
returns-clause-first g c =
    let T = g.T.Sample in
    let taps = map T.number c.args.taps.now in
    let all : c.rest.at ≡ length taps = omega (arith, length-map c.args.taps.now T.number) in
    c.rest.invariant.first
    ∙ ap (λ n. wrap g.F.DotForm.width (row taps (map T.number c.args.window.now) n c.args.first)) all

pub returns-clause-second : goal.returns-clause-second
returns-clause-second g c =
    let T = g.T.Sample in
    let taps = map T.number c.args.taps.now in
    let all : c.rest.at ≡ length taps = omega (arith, length-map c.args.taps.now T.number) in
    c.rest.invariant.second
    ∙ ap (λ n. wrap g.F.DotForm.width (row taps (map T.number c.args.window.now) n (c.args.first + c.args.step))) all

pub returns-clause-third : goal.returns-clause-third
returns-clause-third g c =
    let T = g.T.Sample in
    let taps = map T.number c.args.taps.now in
    let all : c.rest.at ≡ length taps = omega (arith, length-map c.args.taps.now T.number) in
    c.rest.invariant.third
    ∙ ap (λ n. wrap g.F.DotForm.width
    (row taps (map T.number c.args.window.now) n (c.args.first + 2 * c.args.step))) all

pub returns-clause-fourth : goal.returns-clause-fourth
returns-clause-fourth g c =
    let T = g.T.Sample in
    let taps = map T.number c.args.taps.now in
    let all : c.rest.at ≡ length taps = omega (arith, length-map c.args.taps.now T.number) in
    c.rest.invariant.fourth
    ∙ ap (λ n. wrap g.F.DotForm.width
    (row taps (map T.number c.args.window.now) n (c.args.first + 3 * c.args.step))) all

pub returns-clause-steps : goal.returns-clause-steps
returns-clause-steps g c =
    let n = c.size-size.result in
    let some = c.requires.some in
    let is = c.size-size.ensures in
    let total = length c.args.taps.now in
    let whole = counted_all c.args.steps.now c.groups.steps c.rest.steps 4 n c.groups.at c.rest.at total
    (omega (arith, some, is)) c.groups.invariant.counted (omega arith) (omega arith) (omega arith)
    c.rest.invariant.counted in
    let turns = ap (λ m. lane_turns m total) is in
    record { multiplies_rise = omega (arith, whole); turns_within = omega (arith, whole, turns) }
