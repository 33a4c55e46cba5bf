use Rattle.std.proofs.Common.{◌≡◌, ◌≤◌, ◌-◌, ◌*◌, ◌%◌, take}
use Rattle.dsp_defs.specs.Formats.{close}
use Rattle.dsp_defs.specs.Signal.{values}
use Rattle.dsp_defs.specs.declared.format.Fmt.TheVariants.{Q15}
use Rattle.dsp_lanes.specs.MatrixRows.{column_sum}
use Rattle.dsp_lanes.specs.Turns.{RisesWithin}
use Rattle.dsp_lanes.proofs.matrix_rows.multiply_two_rows.Given as goal

-- the elements so far are written and counted
abbrev pub invariant-fours : goal.invariant-fours
invariant-fours g l = record {
  fours : l.column % 4 ≡ 0;
  within : l.column ≤ l.given;
  upper : take l.column l.upper ≡ values l.column (λ k. close Q15 (column_sum l.rows l.matrix l.columns l.given 0 k));
  lower : take l.column l.lower ≡ values l.column (λ k. close Q15
      (column_sum l.rows l.matrix l.columns l.given l.columns k));
  counted : RisesWithin l.initial.steps l.steps (2 * l.column * l.columns) (2 * l.column * l.columns);
}

abbrev pub decreases-fours : goal.decreases-fours
decreases-fours g l = l.given - l.column
