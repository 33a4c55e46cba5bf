use Rattle.dsp_laws.proofs.ReportLaws.{reports}
use Rattle.dsp_laws.proofs.laws.what_is_reported.Goals as goal

pub returns : goal.returns
returns c = reports
