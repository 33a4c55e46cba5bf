use Rattle.std.proofs.Common.{rules}
use Rattle.dsp_defs.specs.Reading.{script_at}
use Rattle.dsp_script.proofs.reader.script.Goals as goal

pub returns : goal.returns
unfolding script_at
returns c = search rules
