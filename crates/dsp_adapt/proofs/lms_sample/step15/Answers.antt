use Rattle.std.proofs.Common.{arith}
use Rattle.std.proofs.lemmas.Int.{to_z-of_z}
use Rattle.dsp_adapt.proofs.lms_sample.step15.Goals as goal

pub returns : goal.returns
returns c = search (arith, to_z-of_z)
