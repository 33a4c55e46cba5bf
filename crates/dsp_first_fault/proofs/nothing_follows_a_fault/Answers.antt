use Rattle.dsp_first_fault.proofs.Faults.{nothing_follows, same_follows}
use Rattle.dsp_first_fault.proofs.nothing_follows_a_fault.Goals as goal

pub returns-clause-nothing : goal.returns-clause-nothing
returns-clause-nothing c = nothing_follows

pub returns-clause-same : goal.returns-clause-same
returns-clause-same c = same_follows
