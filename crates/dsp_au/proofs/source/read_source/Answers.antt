use Rattle.dsp_au.proofs.SourceLaws as laws
use Rattle.dsp_au.proofs.source.read_source.Goals as goal

pub returns-in-Ok-clause-ok : goal.returns-in-Ok-clause-ok
returns-in-Ok-clause-ok g c = rw c.in-WaveToAu.is (laws.wave_opened c.in-Ok.header _ _ c.in-Ok.ensures.ok)

pub returns-in-Err-Fault-clause-err : goal.returns-in-Err-Fault-clause-err
returns-in-Err-Fault-clause-err g c = rw c.in-WaveToAu.is
    (laws.wave_fault c.in-Err-Fault.fault c.in-Err-Fault.offset _ _
    (rw c.in-Err-Fault.field-0-is at c.in-Err-Fault.ensures.err))

pub returns-in-Err-Fault-read_au-clause-err : goal.returns-in-Err-Fault-read_au-clause-err
returns-in-Err-Fault-read_au-clause-err g c = rw c.in-AuToWave.is
    (laws.au_fault c.in-Err-Fault-read_au.fault c.in-Err-Fault-read_au.offset _ _
    (rw c.in-Err-Fault-read_au.field-0-is at c.in-Err-Fault-read_au.ensures.err))

pub returns-in-Err-Read-read_au-clause-err : goal.returns-in-Err-Read-read_au-clause-err
returns-in-Err-Read-read_au-clause-err g c = rw c.in-AuToWave.is
    (laws.au_failed _ _ (rw c.in-Err-Read-read_au.field-0-is at c.in-Err-Read-read_au.ensures.err))
