use Rattle.std.proofs.Common.{rules}
use Rattle.dsp_channelwise.proofs.sums.conv_partial.Goals as goal

pub returns-clause-values : goal.returns-clause-values
returns-clause-values g c = search rules

pub returns-clause-fits : goal.returns-clause-fits
returns-clause-fits g c = search rules

pub returns-clause-products : goal.returns-clause-products
returns-clause-products g c = search rules
