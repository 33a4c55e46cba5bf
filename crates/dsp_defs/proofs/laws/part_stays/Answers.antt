use Rattle.dsp_defs.proofs.OutputLaws.{part_begins}
use Rattle.dsp_defs.proofs.laws.part_stays.Goals as goal

pub returns : goal.returns
returns c = part_begins c.args.script.now c.args.block
