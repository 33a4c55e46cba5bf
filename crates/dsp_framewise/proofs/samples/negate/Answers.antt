use Rattle.std.proofs.Common.{rules}
use Rattle.dsp_framewise.proofs.samples.negate.Goals as goal

pub overflow_sub-from : goal.overflow_sub-from
overflow_sub-from c = search rules

pub returns-clause-value : goal.returns-clause-value
returns-clause-value c = search rules

pub returns-clause-fits : goal.returns-clause-fits
returns-clause-fits c = search rules
