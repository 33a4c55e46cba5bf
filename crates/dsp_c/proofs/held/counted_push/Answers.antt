use Rattle.dsp_c.proofs.held.counted_push.Goals as goal

pub returns-clause-ok : goal.returns-clause-ok
returns-clause-ok g c = c.push.ensures.ok

pub returns-clause-err : goal.returns-clause-err
returns-clause-err g c = c.push.ensures.err
