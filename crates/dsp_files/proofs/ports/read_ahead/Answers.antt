use Rattle.std.proofs.Common.{rules}
use Rattle.dsp_files.proofs.ports.read_ahead.Goals as goal

pub invariant_of-ahead-2 : goal.invariant_of-ahead-2
invariant_of-ahead-2 g c = search rules
