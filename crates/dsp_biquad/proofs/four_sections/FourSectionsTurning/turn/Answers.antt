use Rattle.dsp_biquad.proofs.Waves.{turns}
use Rattle.dsp_biquad.proofs.four_sections.FourSectionsTurning.turn.Goals as goal

pub returns-clause-turns : goal.returns-clause-turns
returns-clause-turns g c = turns g.T.Sample.format _ _ _ _ c.turn.ensures.turn
