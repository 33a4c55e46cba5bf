use Rattle.std.proofs.Common.{arith, w32}
use Rattle.std.proofs.lemmas.Int.{ints}
use Rattle.dsp_lanes.proofs.LaneSums.{empty_lanes}
use Rattle.dsp_lanes.proofs.q7.I8LaneKernels.no_sums.Goals as goal

pub returns-clause-sums : goal.returns-clause-sums
returns-clause-sums g c = (empty_lanes w32 g.row.L (omega (arith, ints))).0

pub returns-clause-fit : goal.returns-clause-fit
returns-clause-fit g c = (empty_lanes w32 g.row.L (omega (arith, ints))).1
