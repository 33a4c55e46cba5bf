use Rattle.std.proofs.Common.{rules}
use Rattle.dsp_wave.proofs.writer.riff_size.Goals as goal

pub returns : goal.returns
returns c = search rules
