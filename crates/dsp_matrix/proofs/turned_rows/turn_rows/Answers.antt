use Rattle.std.proofs.Common.{◌+◌, arith, below_more}
use Rattle.dsp_matrix.proofs.turned_rows.turn_rows.Goals as goal

pub loop-column-preserved : goal.loop-column-preserved
loop-column-preserved g c =
    let before = c.loop-column.invariant in
    let turned = c.turn_column.ensures in
    record {
      kept = λ i j inner stood. turned.kept i j inner (before.kept i j inner stood);
      turned = λ k j few below. below_more _ c.loop-column.column
          (λ j' sooner. turned.kept (c.args.row + k) j' (omega arith) (before.turned k j' few sooner))
          (turned.turned k few) j below;
    }
