use Rattle.std.proofs.Common.{w32}
use Rattle.dsp_lanes.proofs.LaneOps.{ints_of_bits}
use Rattle.dsp_lanes.proofs.LaneClosings.{stored}
use Rattle.dsp_sections.proofs.ladder_lanes.I32LadderLanes.store.Goals as goal

pub returns : goal.returns
returns c = stored c.args.at c.args.numbers.now _ c.args.values (ints_of_bits w32 c.args.values c.requires.fit.0)
