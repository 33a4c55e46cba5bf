use Rattle.std.proofs.Common.{rules}
use Rattle.dsp_vector.proofs.calls.vec_sub.Goals as goal

pub returns : goal.returns
returns g c = search rules
