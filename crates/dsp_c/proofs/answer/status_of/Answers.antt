use Rattle.std.proofs.Common.{ap, sym, arith}
use Rattle.dsp_c.specs.Answer.{status_of}
use Rattle.dsp_c.proofs.answer.status_of.Goals as goal

pub returns-in-State-clause-value : goal.returns-in-State-clause-value
returns-in-State-clause-value c = ap status_of (sym c.in-State.is)

pub returns-in-State-clause-some : goal.returns-in-State-clause-some
returns-in-State-clause-some c = omega arith
