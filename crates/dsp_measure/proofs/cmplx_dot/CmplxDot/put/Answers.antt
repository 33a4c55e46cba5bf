use Rattle.std.proofs.Common.{◌≡◌, ◌∙◌, ap, map, rules, SFits, to_z, of_z, to_z-of_z, ℤ}
use mir.Syntax.{w64}
use Rattle.dsp_measure.specs.Sums.{with_complex, parts_in}
use Rattle.dsp_measure.proofs.SumLaws.{complex_sums-more}
use Rattle.dsp_measure.proofs.cmplx_dot.CmplxDot.put.Goals as goal

pub returns-clause-sums : goal.returns-clause-sums
returns-clause-sums g c = λ x y same even stood. (
    let a = map g.T.Sample.number c.args.a.now in
    let b = map g.T.Sample.number c.args.b.now in
    let re : SFits w64 c.add_complex_slices.result.0 = search rules in
    let im : SFits w64 c.add_complex_slices.result.1 = search rules in
    let old_re : SFits w64 c.self.inside.re = search rules in
    let old_im : SFits w64 c.self.inside.im = search rules in
    let start : (to_z w64 (of_z w64 c.self.inside.re), to_z w64 (of_z w64 c.self.inside.im)) ≡
    (c.self.inside.re, c.self.inside.im) = λ i. (to_z-of_z old_re i, to_z-of_z old_im i) in
    rw (to_z-of_z re, to_z-of_z im)
    (c.add_complex_slices.ensures.sums
    ∙ ap (λ (s : ℤ × ℤ). with_complex g.T.Sample.format s (parts_in a 0) (parts_in a 1) (parts_in b 0) (parts_in b 1))
    (start ∙ c.self.view_is ∙ stood)
    ∙ complex_sums-more g.T.Sample.format x y a b same even))
