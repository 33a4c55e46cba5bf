use Rattle.dsp_au.proofs.ExchangeLaws as laws
use Rattle.dsp_au.proofs.exchange.five_exchanged.Goals as goal

pub returns : goal.returns
returns c = record { lanes = laws.five_samples c.args.bytes.now c.requires.full }
