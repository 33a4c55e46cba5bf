use Rattle.std.proofs.Common.{rules}
use Rattle.dsp_channelwise.proofs.sums.DelaysTerms.term.Goals as goal

pub returns-clause-value : goal.returns-clause-value
returns-clause-value g c = search rules

pub returns-clause-small : goal.returns-clause-small
returns-clause-small g c = search rules
