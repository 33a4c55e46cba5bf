use Rattle.dsp_script.proofs.ScriptLaws.{one_script, reads_or_fails}
use Rattle.dsp_script.proofs.laws.one_reading.Goals as goal

pub returns-clause-one : goal.returns-clause-one
returns-clause-one c = one_script

pub returns-clause-faultless : goal.returns-clause-faultless
returns-clause-faultless c = reads_or_fails
