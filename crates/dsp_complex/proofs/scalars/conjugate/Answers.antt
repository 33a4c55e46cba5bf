use Rattle.std.proofs.Common.{rules}
use Rattle.dsp_complex.proofs.scalars.conjugate.Goals as goal

pub returns-clause-re : goal.returns-clause-re
returns-clause-re g c = search rules
