use Rattle.std.proofs.Common.{◌+◌, ◌∙◌, ap, arith, ◌+ℤ◌, ◌*ℤ◌}
use Rattle.dsp_defs.specs.Numbers.{wrap}
use Rattle.dsp_defs.specs.Formats.{accumulator}
use Rattle.dsp_defs.proofs.SumLemmas.{sample-map}
use Rattle.dsp_lanes.proofs.rows.add_one.Goals as goal

pub returns-clause-sum : goal.returns-clause-sum
returns-clause-sum g c =
    let T = g.T.Sample in
    let tap = sample-map T.number c.args.taps.now c.args.j c.index-taps-j.result (omega arith) c.index-taps-j.is in
    let x = sample-map T.number c.args.window.now (c.args.at + c.args.j) c.index-window-at.result (omega arith)
    c.index-window-at.is in
    c.accumulate.ensures
    ∙ ap (λ p. wrap (accumulator T.format) (T.total c.args.sum +ℤ p)) c.product-product.ensures.value
    ∙ (λ i. wrap (accumulator T.format) (T.total c.args.sum +ℤ tap i *ℤ x i))
