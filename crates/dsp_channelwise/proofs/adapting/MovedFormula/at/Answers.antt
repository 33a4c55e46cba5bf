use Rattle.std.proofs.Common.{rules}
use Rattle.dsp_channelwise.proofs.adapting.MovedFormula.at.Goals as goal

pub overflow_add-high : goal.overflow_add-high
overflow_add-high g c = search rules

pub sum-requires : goal.sum-requires
sum-requires g c = search rules

pub returns-in-Q31-clause-value : goal.returns-in-Q31-clause-value
returns-in-Q31-clause-value g c = search rules

pub returns-in-Q31-clause-fits : goal.returns-in-Q31-clause-fits
returns-in-Q31-clause-fits g c = search rules

pub returns-in_default : goal.returns-in_default
returns-in_default g c = search rules

pub returns-in-Q31-clause-products : goal.returns-in-Q31-clause-products
returns-in-Q31-clause-products g c = search rules
