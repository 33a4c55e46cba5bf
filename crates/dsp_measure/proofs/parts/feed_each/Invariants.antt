use Rattle.std.proofs.Common.{◌*◌, ◌/◌, length}
use Rattle.dsp_defs.specs.Counts.{Rises}
use Rattle.dsp_measure.specs.Measures.{price_of}
use Rattle.dsp_measure.proofs.MeasureParts.{PartsSoFar}
use Rattle.dsp_measure.proofs.parts.feed_each.Given as goal

abbrev pub invariant-loop-part : goal.invariant-loop-part
invariant-loop-part g l = record {
  so_far : PartsSoFar g.T.Sample.format l.measure l.channels l.frames l.initial.kept l.kept l.part;
  steps : Rises l.initial.steps l.steps (l.part * (price_of l.measure * (length l.frames / l.channels)))
      (l.part * (price_of l.measure * (length l.frames / l.channels)));
}
