use Rattle.std.proofs.Common.{w16}
use Rattle.dsp_lanes.proofs.LaneOps.{ints_of_bits}
use Rattle.dsp_lanes.proofs.LaneClosings.{stored}
use Rattle.dsp_sections.proofs.sections.I16SectionKernels.store.Goals as goal

pub returns : goal.returns
returns g c = stored c.args.at c.args.samples.now _ c.args.numbers (ints_of_bits w16 c.args.numbers c.requires.fit)
