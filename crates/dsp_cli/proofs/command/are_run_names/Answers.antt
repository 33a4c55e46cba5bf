use Rattle.std.proofs.Common.{rules}
use Rattle.dsp_cli.proofs.command.are_run_names.Goals as goal

pub returns-then-ne : goal.returns-then-ne
returns-then-ne c = search rules
