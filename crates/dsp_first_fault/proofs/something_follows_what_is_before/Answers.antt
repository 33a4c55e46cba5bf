use Rattle.dsp_first_fault.proofs.Faults.{brace_follows, items_before, something_follows}
use Rattle.dsp_first_fault.proofs.something_follows_what_is_before.Goals as goal

pub returns-clause-before : goal.returns-clause-before
returns-clause-before c = items_before

pub returns-clause-ended : goal.returns-clause-ended
returns-clause-ended c = something_follows

pub returns-clause-brace : goal.returns-clause-brace
returns-clause-brace c = brace_follows
