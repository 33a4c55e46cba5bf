use Rattle.std.proofs.Common.{ap, sym}
use Rattle.std.specs.Prelude.{slice_get}
use Rattle.dsp_filter.proofs.memoryless.MemorylessUnit.measure.Goals as goal

pub returns : goal.returns
returns g c = sym (ap (λ ms. slice_get ms c.args._index) (c.keeps_nothing.ensures.measures c.args._number))
