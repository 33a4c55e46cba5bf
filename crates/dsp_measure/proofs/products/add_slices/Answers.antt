use Rattle.std.proofs.Common.{◌∙◌, ap, map, rules, SFits, to_z-of_z, arith}
use mir.Syntax.{w64}
use Rattle.std.proofs.lemmas.List.{length-map}
use Rattle.dsp_defs.proofs.SumLemmas.{sample-map}
use Rattle.dsp_measure.specs.Sums.{with_products}
use Rattle.dsp_measure.proofs.products.add_slices.Goals as goal

pub returns-clause-sum : goal.returns-clause-sum
returns-clause-sum g c =
    let N = g.T.Sample.number in
    let a = c.args.a.now in
    let b = c.args.b.now in
    let fits : SFits w64 c.add_products.result = search rules in
    rw (to_z-of_z fits)
    (c.add_products.ensures.sum (map N a) (map N b) (length-map a N)
    (λ n s less is. (
      sample-map N a n s.0 less is.0,
      sample-map N b n s.1 (omega (arith, less, c.requires.same))
          is.1,
    ))
    ∙ ap (λ s. with_products g.T.Sample.format s (map N a) (map N b)) (to_z-of_z c.ranges.start))
