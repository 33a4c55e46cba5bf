use Rattle.std.proofs.Common.{arith, w64}
use Rattle.std.proofs.lemmas.Int.{ints}
use Rattle.dsp_lanes.proofs.LaneSums.{lanes_sum}
use Rattle.dsp_lanes.proofs.q31.I32LaneKernels.sum_lanes.Goals as goal

pub returns : goal.returns
returns g c = lanes_sum w64 c.args.sums (omega (arith, ints)) c.requires
