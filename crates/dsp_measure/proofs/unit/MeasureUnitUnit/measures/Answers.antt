use Rattle.std.proofs.Common.{◌∙◌, ap, sym}
use Rattle.dsp_measure.specs.Measures.{parts_of}
use Rattle.dsp_measure.proofs.MeasureResults.{length-results}
use Rattle.dsp_measure.proofs.unit.MeasureUnitUnit.measures.Goals as goal

pub returns : goal.returns
returns c =
    let u = c.self.inside in
    rw (← c.self.view_is) (c.parts.ensures ∙ ap (parts_of u.measure) c.from.ensures ∙
    sym (length-results u.format u.channels 0 u.kept.items u.measure))
