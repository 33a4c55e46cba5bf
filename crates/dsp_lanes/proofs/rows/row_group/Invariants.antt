use Rattle.std.proofs.Common.{ℕ, ◌≡◌, ◌+◌, ◌-◌, ◌*◌, ◌≤◌, ◌*ℤ◌, length, map}
use Rattle.dsp_defs.specs.Numbers.{wrap}
use Rattle.dsp_defs.specs.Signal.{sample, sum_below, values}
use Rattle.dsp_defs.specs.Counts.{Rises}
use Rattle.dsp_lanes.proofs.rows.row_group.Given as goal

-- the sums have taken the taps so far, two a turn
abbrev pub invariant-pairs : goal.invariant-pairs
invariant-pairs g l = record {
  within : l.j ≤ length l.taps;
  fit : g.F.RowForm.AreSums l.sums l.j;
  summed : g.F.RowForm.lanes l.sums ≡ values g.F.RowForm.size
      (λ i. wrap g.F.RowForm.width (sum_below l.j (λ j. sample (map g.T.Sample.number l.taps) j *ℤ sample
      (map g.T.Sample.number l.window) (l.at + i + j))));
  counted : (k : ℕ) × (l.j ≡ 2 * k) × Rises l.initial.steps l.steps (l.j * g.F.RowForm.size) k;
}

abbrev pub decreases-pairs : goal.decreases-pairs
decreases-pairs g l = length l.taps - l.j
