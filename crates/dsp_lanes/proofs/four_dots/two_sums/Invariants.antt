use Rattle.std.proofs.Common.{ℕ, ◌≡◌, ◌-◌, ◌*◌, ◌≤◌, length, map}
use Rattle.dsp_defs.specs.Counts.{Rises}
use Rattle.dsp_lanes.specs.Rows.{IsRow}
use Rattle.dsp_lanes.specs.Turns.{RisesWithin}
use Rattle.dsp_lanes.proofs.four_dots.two_sums.Given as goal

-- each sum has taken the products so far, which are counted
abbrev pub invariant-groups : goal.invariant-groups
invariant-groups g l =
    let F = g.F.DotForm in
    let taps = map g.T.Sample.number l.taps in
    let window = map g.T.Sample.number l.window in
    record {
      within : l.at ≤ length l.taps;
      fit_one : F.AreSums l.one;
      fit_other : F.AreSums l.other;
      one : IsRow F.width taps window l.at l.first (F.value l.one);
      other : IsRow F.width taps window l.at l.second (F.value l.other);
      counted : (k : ℕ) × (k * l.size ≡ l.at) × RisesWithin l.initial.steps l.steps (2 * l.at) (2 * k);
    }

abbrev pub decreases-groups : goal.decreases-groups
decreases-groups g l = length l.taps - l.at

abbrev pub invariant-rest : goal.invariant-rest
invariant-rest g l =
    let w = g.F.DotForm.width in
    let total = g.T.Sample.total in
    let taps = map g.T.Sample.number l.taps in
    let window = map g.T.Sample.number l.window in
    record {
      within : l.at ≤ length l.taps;
      started : l.initial.at ≤ l.at;
      one : IsRow w taps window l.at l.first (total l.sum);
      other : IsRow w taps window l.at l.second (total l.other_sum);
      counted : Rises l.initial.steps l.steps (2 * (l.at - l.initial.at)) (2 * (l.at - l.initial.at));
    }

abbrev pub decreases-rest : goal.decreases-rest
decreases-rest g l = length l.taps - l.at
