use Rattle.std.proofs.Common.{ℕ, ◌+◌, ◌<◌, map}
use Rattle.dsp_matrix.specs.Turning.{IsTurned, StaysTurned}
use Rattle.dsp_matrix.proofs.turned_rows.turn_rows.Given as goal

-- the columns so far stand right, and nothing is lost
abbrev pub invariant-loop-column : goal.invariant-loop-column
invariant-loop-column g l =
    let number = g.T.Sample.number in
    record {
      kept : StaysTurned l.rows l.columns (map number l.a) (map number l.initial.out) (map number l.out);
      turned : (k j : ℕ) → k < g.row.N → j < l.column → IsTurned l.rows l.columns (map number l.a) (map number l.out)
          (l.row + k) j;
    }
