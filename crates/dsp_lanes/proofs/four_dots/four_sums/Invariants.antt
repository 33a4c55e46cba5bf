use Rattle.std.proofs.Common.{ℕ, ◌≡◌, ◌-◌, ◌*◌, ◌≤◌, length, map}
use Rattle.dsp_defs.specs.Counts.{Rises}
use Rattle.dsp_lanes.specs.Rows.{IsRow}
use Rattle.dsp_lanes.specs.Turns.{RisesWithin}
use Rattle.dsp_lanes.proofs.four_dots.four_sums.Given as goal

-- each sum has taken the products so far, which are counted
abbrev pub invariant-groups : goal.invariant-groups
invariant-groups g l =
    let F = g.F.DotForm in
    let taps = map g.T.Sample.number l.taps in
    let window = map g.T.Sample.number l.window in
    record {
      within : l.at ≤ length l.taps;
      fit_first : F.AreSums l.parts.first;
      fit_second : F.AreSums l.parts.second;
      fit_third : F.AreSums l.parts.third;
      fit_fourth : F.AreSums l.parts.fourth;
      first : IsRow F.width taps window l.at l.first (F.value l.parts.first);
      second : IsRow F.width taps window l.at l.second (F.value l.parts.second);
      third : IsRow F.width taps window l.at l.third (F.value l.parts.third);
      fourth : IsRow F.width taps window l.at l.fourth (F.value l.parts.fourth);
      counted : (k : ℕ) × (k * l.size ≡ l.at) × RisesWithin l.initial.steps l.steps (4 * l.at) (4 * k);
    }

abbrev pub decreases-groups : goal.decreases-groups
decreases-groups g l = length l.taps - l.at

abbrev pub invariant-rest : goal.invariant-rest
invariant-rest g l =
    let w = g.F.DotForm.width in
    let total = g.T.Sample.total in
    let taps = map g.T.Sample.number l.taps in
    let window = map g.T.Sample.number l.window in
    record {
      within : l.at ≤ length l.taps;
      started : l.initial.at ≤ l.at;
      first : IsRow w taps window l.at l.first (total l.sums.first);
      second : IsRow w taps window l.at l.second (total l.sums.second);
      third : IsRow w taps window l.at l.third (total l.sums.third);
      fourth : IsRow w taps window l.at l.fourth (total l.sums.fourth);
      counted : Rises l.initial.steps l.steps (4 * (l.at - l.initial.at)) (4 * (l.at - l.initial.at));
    }

abbrev pub decreases-rest : goal.decreases-rest
decreases-rest g l = length l.taps - l.at
