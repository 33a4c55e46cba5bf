use Rattle.std.proofs.Common.{ap, sym, length}
use Rattle.dsp_filter.proofs.memoryless.MemorylessUnit.kept_count.Goals as goal

pub returns-clause-count : goal.returns-clause-count
returns-clause-count g c = sym (ap length c.keeps_nothing.ensures.kept)
