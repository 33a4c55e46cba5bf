use Rattle.dsp_script.proofs.CanonLaws.{canon_read}
use Rattle.dsp_script.proofs.laws.canonical_text_is_read_back.Goals as goal

pub returns : goal.returns
returns c = canon_read
