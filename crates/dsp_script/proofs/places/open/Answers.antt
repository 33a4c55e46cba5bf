use Rattle.std.proofs.Common.{rules}
use Rattle.dsp_defs.specs.Places.{next_at}
use Rattle.dsp_script.proofs.places.open.Goals as goal

pub returns-in_err-judged-in-Run-Some : goal.returns-in_err-judged-in-Run-Some
unfolding next_at
returns-in_err-judged-in-Run-Some c = search rules

pub returns-in_ok-judged-in-Run-Some : goal.returns-in_ok-judged-in-Run-Some
unfolding next_at
returns-in_ok-judged-in-Run-Some c = search rules
