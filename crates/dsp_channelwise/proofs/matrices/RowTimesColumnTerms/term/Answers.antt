use Rattle.std.proofs.Common.{rules}
use Rattle.dsp_channelwise.proofs.matrices.RowTimesColumnTerms.term.Goals as goal

pub nonzero_div-self : goal.nonzero_div-self
nonzero_div-self g c = search rules

pub overflow_mul-self : goal.overflow_mul-self
overflow_mul-self g c = search rules

pub overflow_add-self : goal.overflow_add-self
overflow_add-self g c = search rules

pub overflow_mul-k : goal.overflow_mul-k
overflow_mul-k g c = search rules

pub nonzero_rem-self : goal.nonzero_rem-self
nonzero_rem-self g c = search rules

pub overflow_add-k : goal.overflow_add-k
overflow_add-k g c = search rules

pub returns-clause-value : goal.returns-clause-value
returns-clause-value g c = search rules

pub returns-clause-small : goal.returns-clause-small
returns-clause-small g c = search rules

pub returns-clause-products : goal.returns-clause-products
returns-clause-products g c = search rules
