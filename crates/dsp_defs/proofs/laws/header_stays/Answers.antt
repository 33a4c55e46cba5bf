use Rattle.dsp_defs.proofs.WaveLemmas.{header_of-append}
use Rattle.dsp_defs.proofs.laws.header_stays.Goals as goal

pub returns : goal.returns
returns c = λ bytes more header. header_of-append bytes more c.args.wanted header
