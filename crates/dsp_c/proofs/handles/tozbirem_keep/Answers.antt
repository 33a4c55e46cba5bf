use Rattle.std.proofs.Common.{rules}
use Rattle.dsp_c.proofs.handles.tozbirem_keep.Goals as goal

pub returns-in-Ok-clause-ok : goal.returns-in-Ok-clause-ok
returns-in-Ok-clause-ok c = search rules

pub returns-in-Ok-clause-rest : goal.returns-in-Ok-clause-rest
returns-in-Ok-clause-rest c = search rules
