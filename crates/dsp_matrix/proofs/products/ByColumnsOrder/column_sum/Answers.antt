use Rattle.std.proofs.Common.{◌∙◌, ◌*◌, ap, length, map}
use Rattle.std.specs.Prelude.{◌*ℤ◌}
use Rattle.dsp_defs.specs.Formats.{accumulator}
use Rattle.dsp_defs.specs.Numbers.{wrap}
use Rattle.dsp_defs.specs.Signal.{sample}
use Rattle.dsp_defs.proofs.Signal.{sum_below_cong}
use Rattle.dsp_filter.proofs.Slices.{sample-piece}
use Rattle.dsp_matrix.proofs.products.ByColumnsOrder.column_sum.Goals as goal

pub returns-clause-sum : goal.returns-clause-sum
returns-clause-sum g c =
    let T = g.T.Sample in
    let row = c.args.row.now in
    let start = c.args.column * length row in
    c.dot.ensures.sum
    ∙ ap (wrap (accumulator T.format))
    (sum_below_cong (length row) _ _ (λ k h. ap (λ v. sample (map T.number row) k *ℤ v)
    (sample-piece T.number c.args.matrix.now start (length row) k h)))
