use Rattle.std.proofs.Common.{rules}
use Rattle.dsp_files.proofs.ports.FileSinkSink.flush.Goals as goal

pub returns-in-Ok-clause-faults : goal.returns-in-Ok-clause-faults
returns-in-Ok-clause-faults g c = search rules

pub returns-in-Err-clause-faults : goal.returns-in-Err-clause-faults
returns-in-Err-clause-faults g c = search rules
