use Rattle.std.proofs.Common.{rules}
use Rattle.dsp_wave.proofs.reader.padded.Goals as goal

pub returns : goal.returns
returns c = search rules
