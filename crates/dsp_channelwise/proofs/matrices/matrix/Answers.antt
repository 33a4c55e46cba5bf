use Rattle.std.proofs.Common.{rules}
use Rattle.dsp_channelwise.proofs.matrices.matrix.Goals as goal

pub nonzero_div-x : goal.nonzero_div-x
nonzero_div-x g c = search rules

pub overflow_mul-x : goal.overflow_mul-x
overflow_mul-x g c = search rules

pub returns-clause-values : goal.returns-clause-values
returns-clause-values g c = search rules

pub returns-clause-fits : goal.returns-clause-fits
returns-clause-fits g c = search rules

pub returns-clause-products : goal.returns-clause-products
returns-clause-products g c = search rules
