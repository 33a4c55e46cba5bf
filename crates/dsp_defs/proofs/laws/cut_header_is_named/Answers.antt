use Rattle.dsp_defs.proofs.WaveCuts.{cut_header}
use Rattle.dsp_defs.proofs.laws.cut_header_is_named.Goals as goal

pub returns : goal.returns
returns c = λ bytes header n h before. cut_header bytes c.args.wanted header n h before
