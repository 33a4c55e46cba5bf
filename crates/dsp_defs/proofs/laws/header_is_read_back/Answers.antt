use Rattle.std.proofs.Common.{rules}
use Rattle.dsp_defs.proofs.WaveLaws.{header_of-wave_header}
use Rattle.dsp_defs.proofs.laws.header_is_read_back.Goals as goal

pub returns : goal.returns
returns c = λ channels frames rest few fits. header_of-wave_header c.args.format channels c.args.rate frames rest few
    (search rules) c.args.container fits
