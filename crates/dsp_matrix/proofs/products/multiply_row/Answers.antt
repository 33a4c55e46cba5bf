use Rattle.std.proofs.Common.{◌∙◌, ◌<◌, length, map, take, ap, refl, arith}
use Rattle.std.specs.Prelude.{◌*ℤ◌}
use Rattle.std.proofs.lemmas.List.{length-map, map-set}
use Rattle.dsp_defs.specs.Formats.{close}
use Rattle.dsp_defs.specs.Signal.{sample, sum_below}
use Rattle.dsp_defs.proofs.FormatLemmas.{close-wrap}
use Rattle.dsp_lanes.proofs.LaneRows.{rows-one}
use Rattle.dsp_matrix.proofs.RowWrites.{rises-more}
use Rattle.dsp_matrix.proofs.products.multiply_row.Goals as goal

pub loop-l-preserved : goal.loop-l-preserved
loop-l-preserved g c =
    let T = g.T.Sample in
    let l = c.loop-l.l in
    let out = c.loop-l.out in
    let row = map T.number c.args.row.now in
    let matrix = map T.number c.args.matrix.now in
    let columns = length c.args.row.now in
    let given = length c.args.out.now in
    let room : l < length (map T.number out) = omega (arith, length-map out T.number) in
    record {
      written =
          ap (take _) (map-set T.number out l c.close.result)
          ∙ rows-one (λ i. close T.format (sum_below columns
          (λ k. sample row k *ℤ sample matrix (g.O.Order.place columns given k i)))) l _ (map T.number out)
          (T.number c.close.result) refl room c.loop-l.invariant.written
          (c.close.ensures ∙ ap (close T.format) c.column_sum-sum.ensures.sum ∙ close-wrap T.format _);
      counted = rises-more _ _ _ l _ columns refl c.loop-l.invariant.counted c.column_sum-sum.ensures.steps;
    }
