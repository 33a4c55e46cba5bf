use Rattle.std.proofs.Common.{ℕ, ◌-◌, ◌<◌, ◌≤◌, map}
use Rattle.dsp_matrix.specs.Turning.{IsTurned}
use Rattle.dsp_matrix.proofs.calls.mat_trans.Given as goal

-- the rows so far stand right
abbrev pub invariant-fours : goal.invariant-fours
invariant-fours g l =
    let number = g.T.Sample.number in
    record {
      within : l.row ≤ l.rows;
      turned : (i j : ℕ) → i < l.row → j < l.columns → IsTurned l.rows l.columns (map number l.a) (map number l.out) i
          j;
    }

abbrev pub decreases-fours : goal.decreases-fours
decreases-fours g l = l.rows - l.row

abbrev pub invariant-rest : goal.invariant-rest
invariant-rest g l =
    let number = g.T.Sample.number in
    record {
      within : l.row ≤ l.rows;
      turned : (i j : ℕ) → i < l.row → j < l.columns → IsTurned l.rows l.columns (map number l.a) (map number l.out) i
          j;
    }

abbrev pub decreases-rest : goal.decreases-rest
decreases-rest g l = l.rows - l.row
