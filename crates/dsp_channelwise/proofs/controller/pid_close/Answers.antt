use Rattle.std.proofs.Common.{rules}
use Rattle.dsp_channelwise.proofs.controller.pid_close.Goals as goal

pub overflow_add-from : goal.overflow_add-from
overflow_add-from c = search rules

pub overflow_mul-y1 : goal.overflow_mul-y1
overflow_mul-y1 c = search rules

pub overflow_add-sum : goal.overflow_add-sum
overflow_add-sum c = search rules

pub returns-in-Q31-clause-value : goal.returns-in-Q31-clause-value
returns-in-Q31-clause-value c = search rules

pub returns-in_default : goal.returns-in_default
returns-in_default c = search rules

pub returns-in-Q31-clause-fits : goal.returns-in-Q31-clause-fits
returns-in-Q31-clause-fits c = search rules
