use Rattle.std.proofs.Common.{rules}
use Rattle.dsp_channelwise.proofs.lattice.LatticeSectionRecurrence.next.Goals as goal

pub returns-clause-value : goal.returns-clause-value
returns-clause-value g c = search rules

pub returns-clause-fits : goal.returns-clause-fits
returns-clause-fits g c = search rules

pub returns-clause-products : goal.returns-clause-products
returns-clause-products g c = search rules
