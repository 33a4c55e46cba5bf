use Rattle.std.proofs.Common.{refl, rules}
use Rattle.dsp_host.specs.declared.refusal.OpenFault.TheVariants as fault
use Rattle.dsp_host.specs.declared.refusal.Refusal.TheVariants as refusal
use Rattle.dsp_c.proofs.handles.tozbirem_hold.Goals as goal

pub returns-in-Err-clause-err : goal.returns-in-Err-clause-err
returns-in-Err-clause-err c some =
    (c.in-Err.why, c.status_of.ensures.value, c.answer_of.ensures, c.in-Err.ensures.err)

pub returns-in_default-clause-err : goal.returns-in_default-clause-err
returns-in_default-clause-err c some = (refusal.Open fault.Memory, refl, refl, tt)

pub returns-clause-ok : goal.returns-clause-ok
returns-clause-ok c = search rules
