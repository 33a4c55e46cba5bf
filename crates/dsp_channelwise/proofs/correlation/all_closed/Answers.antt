use Rattle.std.proofs.Common.{rules}
use Rattle.dsp_channelwise.proofs.correlation.all_closed.Goals as goal

pub returns-clause-fits : goal.returns-clause-fits
returns-clause-fits c = search rules
