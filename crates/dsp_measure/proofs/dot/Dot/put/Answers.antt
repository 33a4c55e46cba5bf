use Rattle.std.proofs.Common.{◌∙◌, ap, map, rules, SFits, to_z-of_z}
use mir.Syntax.{w64}
use Rattle.dsp_measure.specs.Sums.{with_products}
use Rattle.dsp_measure.proofs.SumLaws.{dot-more}
use Rattle.dsp_measure.proofs.dot.Dot.put.Goals as goal

pub returns-clause-value : goal.returns-clause-value
returns-clause-value g c = λ x y same stood. (
    let a = map g.T.Sample.number c.args.a.now in
    let b = map g.T.Sample.number c.args.b.now in
    let fits : SFits w64 c.add_slices-self-inside.result = search rules in
    let sum_fits : SFits w64 c.self.inside.sum = search rules in
    rw (to_z-of_z fits)
    (c.add_slices-self-inside.ensures.sum
    ∙ ap (λ s. with_products g.T.Sample.format s a b) (to_z-of_z sum_fits ∙ c.self.view_is ∙ stood)
    ∙ dot-more g.T.Sample.format x y a b same))
