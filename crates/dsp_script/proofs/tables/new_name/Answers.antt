use Rattle.std.proofs.Common.{rules}
use Rattle.dsp_defs.specs.Places.{next_at}
use Rattle.dsp_script.proofs.tables.new_name.Goals as goal

pub returns-then-is_some : goal.returns-then-is_some
unfolding next_at
returns-then-is_some c = search rules
