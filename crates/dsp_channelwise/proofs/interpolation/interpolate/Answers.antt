use Rattle.std.proofs.Common.{rules}
use Rattle.dsp_channelwise.proofs.interpolation.interpolate.Goals as goal

pub returns-in_err-b-clause-values : goal.returns-in_err-b-clause-values
returns-in_err-b-clause-values g c = search rules

pub returns-in_err-b-clause-fits : goal.returns-in_err-b-clause-fits
returns-in_err-b-clause-fits g c = search rules

pub returns-in_err-b-clause-products : goal.returns-in_err-b-clause-products
returns-in_err-b-clause-products g c = search rules

pub overflow_mul-x : goal.overflow_mul-x
overflow_mul-x g c = search rules

pub returns-clause-values : goal.returns-clause-values
returns-clause-values g c = search rules

pub returns-clause-fits : goal.returns-clause-fits
returns-clause-fits g c = search rules
