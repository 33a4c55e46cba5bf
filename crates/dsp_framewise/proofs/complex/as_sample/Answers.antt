use Rattle.std.proofs.Common.{rules}
use Rattle.dsp_framewise.proofs.complex.as_sample.Goals as goal

pub overflow_cast-result : goal.overflow_cast-result
overflow_cast-result c = search rules

pub returns-clause-value : goal.returns-clause-value
returns-clause-value c = search rules

pub returns-clause-fits : goal.returns-clause-fits
returns-clause-fits c = search rules
