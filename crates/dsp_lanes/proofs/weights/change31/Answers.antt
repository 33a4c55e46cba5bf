use Rattle.std.proofs.Common.{rules}
use Rattle.dsp_lanes.proofs.weights.change31.Goals as goal

pub returns : goal.returns
returns c = search rules
