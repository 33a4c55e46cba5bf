use Rattle.std.proofs.Common.{rules}
use Rattle.dsp_channelwise.proofs.matrices.sizes_of.Goals as goal

pub overflow_mul-result : goal.overflow_mul-result
overflow_mul-result c = search rules

pub overflow_mul-result-in-MatMult : goal.overflow_mul-result-in-MatMult
overflow_mul-result-in-MatMult c = search rules

pub overflow_mul-size : goal.overflow_mul-size
overflow_mul-size c = search rules

pub returns-in-MatMult-clause-whole : goal.returns-in-MatMult-clause-whole
returns-in-MatMult-clause-whole c = search rules

pub returns-in-MatMult-clause-some : goal.returns-in-MatMult-clause-some
returns-in-MatMult-clause-some c = search rules

pub returns-in-MatMult-clause-few : goal.returns-in-MatMult-clause-few
returns-in-MatMult-clause-few c = search rules

pub returns-in_default : goal.returns-in_default
returns-in_default c = search rules

pub returns-in-MatAdd-clause-whole : goal.returns-in-MatAdd-clause-whole
returns-in-MatAdd-clause-whole c = search rules

pub returns-in-MatAdd-clause-few : goal.returns-in-MatAdd-clause-few
returns-in-MatAdd-clause-few c = search rules

pub returns-in-MatAdd-clause-cost : goal.returns-in-MatAdd-clause-cost
returns-in-MatAdd-clause-cost c = search rules
