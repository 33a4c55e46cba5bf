use Rattle.std.proofs.Common.{rules}
use Rattle.dsp_files.proofs.over_files.conclude.Goals as goal

pub returns-then-is_err-clause-answers : goal.returns-then-is_err-clause-answers
returns-then-is_err-clause-answers g c = search rules

pub returns-in_default-clause-answers : goal.returns-in_default-clause-answers
returns-in_default-clause-answers g c = search rules
