use Rattle.std.proofs.Common.{rules}
use Rattle.dsp_channelwise.proofs.adapting.step_size.Goals as goal

pub returns-in-Q31-clause-value : goal.returns-in-Q31-clause-value
returns-in-Q31-clause-value g c = search rules

pub returns-in-Q31-clause-products : goal.returns-in-Q31-clause-products
returns-in-Q31-clause-products g c = search rules

pub returns-in_default : goal.returns-in_default
returns-in_default g c = search rules
