use Rattle.std.proofs.Common.{ap, sym, length}
use Rattle.dsp_filter.proofs.memoryless.MemorylessUnit.measures.Goals as goal

pub returns : goal.returns
returns g c = sym (ap length (c.keeps_nothing.ensures.measures 0))
