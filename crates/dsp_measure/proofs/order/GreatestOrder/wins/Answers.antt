use Rattle.std.proofs.Common.{rules}
use Rattle.dsp_measure.proofs.order.GreatestOrder.wins.Goals as goal

pub returns : goal.returns
returns c = search rules
