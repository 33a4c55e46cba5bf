use Rattle.dsp_defs.proofs.KeptLaws.{kept_numbers-place}
use Rattle.dsp_defs.proofs.laws.kept_numbers_have_their_place.Goals as goal

pub returns : goal.returns
returns c = kept_numbers-place c.args.format
