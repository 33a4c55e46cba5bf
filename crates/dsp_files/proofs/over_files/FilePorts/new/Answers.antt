use Rattle.std.proofs.Common.{rules}
use Rattle.dsp_files.proofs.over_files.FilePorts.new.Goals as goal

pub returns : goal.returns
returns g c = search rules
