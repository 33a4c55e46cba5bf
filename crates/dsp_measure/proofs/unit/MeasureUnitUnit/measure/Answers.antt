use Rattle.std.proofs.Common.{◌≡◌, ◌∙◌, arith}
use Rattle.dsp_measure.specs.Measures.{parts_of}
use Rattle.dsp_measure.proofs.MeasureResults.{length-results}
use Rattle.dsp_measure.proofs.unit.MeasureUnitUnit.measure.Goals as goal

pub result_of-requires-clause-inside : goal.result_of-requires-clause-inside
result_of-requires-clause-inside c =
    let u = c.self.inside in
    let many : c.measures.result ≡ parts_of u.measure u.channels = (rw (← c.self.view_is) at c.measures.ensures) ∙
    length-results u.format u.channels 0 u.kept.items u.measure in
    omega (arith, many, c.if-index-measures.false)
