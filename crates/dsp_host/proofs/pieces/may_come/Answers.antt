use Rattle.std.proofs.Common.{arith}
use Rattle.std.proofs.lemmas.Bool.Decides.{nat_tests}
use Rattle.dsp_host.proofs.pieces.may_come.Goals as goal

pub returns-clause-many : goal.returns-clause-many
returns-clause-many c = grind (arith, nat_tests)
