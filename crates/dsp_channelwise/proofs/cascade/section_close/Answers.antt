use Rattle.std.proofs.Common.{rules}
use Rattle.dsp_channelwise.proofs.cascade.section_close.Goals as goal

pub overflow_cast-saturating_sub : goal.overflow_cast-saturating_sub
overflow_cast-saturating_sub c = search rules

pub overflow_shr-from : goal.overflow_shr-from
overflow_shr-from c = search rules

pub overflow_cast-saturating_sub-in_default : goal.overflow_cast-saturating_sub-in_default
overflow_cast-saturating_sub-in_default c = search rules

pub overflow_shr-sum : goal.overflow_shr-sum
overflow_shr-sum c = search rules

pub returns-in-Q31-clause-value : goal.returns-in-Q31-clause-value
returns-in-Q31-clause-value c = search rules

pub returns-in-Q31-clause-fits : goal.returns-in-Q31-clause-fits
returns-in-Q31-clause-fits c = search rules

pub returns-in_default : goal.returns-in_default
returns-in_default c = search rules
