use Rattle.std.proofs.Common.{◌≡◌, ◌≤◌, ◌+◌, ◌-◌, ◌*◌, ◌%◌, w32}
use Rattle.std.specs.Int.{int_wrap}
use Rattle.dsp_defs.specs.Signal.{values}
use Rattle.dsp_lanes.specs.MatrixRows.{column_sum}
use Rattle.dsp_lanes.specs.Turns.{RisesWithin}
use Rattle.dsp_lanes.proofs.matrix_rows.four_columns.Given as goal

-- the products of the elements so far are summed and counted
abbrev pub invariant-pairs : goal.invariant-pairs
invariant-pairs g l = record {
  even : l.j % 2 ≡ 0;
  within : l.j ≤ l.columns;
  upper : l.sums.upper ≡ values 4 (λ i. int_wrap w32 (column_sum l.rows l.matrix l.j l.given 0 (l.column + i)));
  lower : l.sums.lower ≡ values 4 (λ i. int_wrap w32 (column_sum l.rows l.matrix l.j l.given l.columns (l.column + i)));
  counted : RisesWithin l.initial.steps l.steps (8 * l.j) (8 * l.j);
}

abbrev pub decreases-pairs : goal.decreases-pairs
decreases-pairs g l = l.columns - l.j
