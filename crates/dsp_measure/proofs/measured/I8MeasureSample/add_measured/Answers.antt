use Rattle.std.proofs.Common.{rules}
use Rattle.std.proofs.lemmas.Int.{wraps}
use Rattle.dsp_measure.proofs.measured.I8MeasureSample.add_measured.Goals as goal

pub returns-clause-value : goal.returns-clause-value
returns-clause-value g c = rw (c.product-product.ensures.value) (search (rules, wraps))
