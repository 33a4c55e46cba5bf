use Rattle.dsp_script.proofs.PlainLaws.{plain_read}
use Rattle.dsp_script.proofs.laws.tables_are_their_numbers.Goals as goal

pub returns : goal.returns
returns c = plain_read
