use Rattle.std.proofs.Common.{rules}
use Rattle.dsp_channelwise.proofs.lattice.paired.Goals as goal

pub returns-clause-length : goal.returns-clause-length
returns-clause-length c = search rules
