use Rattle.std.proofs.Common.{◌∙◌, ◌+◌, ◌*◌, ◌≤◌, ◌<◌, ap, ap₂, refl, arith, map, length}
use Rattle.std.specs.Prelude.{◌+ℤ◌, ◌*ℤ◌}
use Rattle.std.proofs.lemmas.Nat.{mul-le}
use Rattle.dsp_defs.specs.Numbers.{wrap}
use Rattle.dsp_defs.specs.Formats.{accumulator}
use Rattle.dsp_defs.specs.Signal.{sample}
use Rattle.dsp_defs.proofs.SumLemmas.{sample-map}
use Rattle.dsp_lanes.proofs.LaneRows.{wrap-zero}
use Rattle.dsp_matrix.proofs.RowWrites.{product-more}
use Rattle.dsp_matrix.proofs.products.ByRowsOrder.column_sum.Goals as goal

pub loop-k-init : goal.loop-k-init
loop-k-init g c = record {
  summed = c.empty-sum.ensures ∙ wrap-zero (accumulator g.T.Sample.format);
  counted = record { multiplies_rise = omega arith; turns_within = omega arith };
}

pub loop-k-preserved : goal.loop-k-preserved
loop-k-preserved g c =
    let T = g.T.Sample in
    let k = c.loop-k.k in
    let row = c.args.row.now in
    let matrix = c.args.matrix.now in
    let places : (k + 1) * c.args.given ≤ length row * c.args.given =
    mul-le (k + 1) c.args.given (length row) c.args.given (omega arith) (omega arith) in
    let place : k * c.args.given + c.args.column < length matrix =
    omega (arith, places, c.requires.whole, c.requires.inside) in
    record {
      summed =
          product-more (accumulator T.format) (λ i. sample (map T.number row) i *ℤ sample (map T.number matrix)
          (i * c.args.given + c.args.column)) k _
          (T.number c.index-row-k.result) (T.number c.index-matrix-k.result) (T.total c.loop-k.sum) _ refl
          (ap₂ (λ u v. u *ℤ v) (sample-map T.number row k c.index-row-k.result (omega arith) c.index-row-k.is)
          (sample-map T.number matrix (k * c.args.given + c.args.column) c.index-matrix-k.result place
          c.index-matrix-k.is))
          c.loop-k.invariant.summed
          (c.accumulate-sum.ensures ∙ ap (λ p. wrap (accumulator T.format) (T.total c.loop-k.sum +ℤ p))
          c.product.ensures.value);
      counted = record {
        multiplies_rise = omega (
          arith,
          c.loop-k.invariant.counted.multiplies_rise,
          c.product.ensures.steps.multiplies_rise,
        );
        turns_within = omega (arith, c.loop-k.invariant.counted.turns_within, c.product.ensures.steps.turns_rise);
      };
    }
