use Rattle.dsp_laws.proofs.StandsLaws.{stands}
use Rattle.dsp_laws.proofs.laws.what_stands.Goals as goal

pub returns : goal.returns
returns c = stands
