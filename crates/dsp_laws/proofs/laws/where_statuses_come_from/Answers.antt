use Rattle.dsp_laws.proofs.OriginLaws.{origins}
use Rattle.dsp_laws.proofs.laws.where_statuses_come_from.Goals as goal

pub returns : goal.returns
returns c = origins
