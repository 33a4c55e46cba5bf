use Rattle.std.proofs.Common.{ℕ, ◌+◌, ◌<◌, map}
use Rattle.dsp_matrix.specs.Turning.{IsTurned, StaysTurned}
use Rattle.dsp_matrix.proofs.turned_rows.turn_column.Given as goal

-- the elements so far stand right, and none is lost
abbrev pub invariant-loop-k : goal.invariant-loop-k
invariant-loop-k g l =
    let number = g.T.Sample.number in
    record {
      kept : StaysTurned l.rows l.columns (map number l.a) (map number l.initial.out) (map number l.out);
      turned : (k : ℕ) → k < l.k → IsTurned l.rows l.columns (map number l.a) (map number l.out) (l.row + k) l.column;
    }
