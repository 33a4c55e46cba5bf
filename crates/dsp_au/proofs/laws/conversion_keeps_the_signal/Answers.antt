use Rattle.dsp_au.proofs.KeptSignals.{keeps_signal}
use Rattle.dsp_au.proofs.laws.conversion_keeps_the_signal.Goals as goal

pub returns : goal.returns
returns c = keeps_signal
