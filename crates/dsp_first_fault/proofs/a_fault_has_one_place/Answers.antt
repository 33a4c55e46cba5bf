use Rattle.dsp_first_fault.proofs.Faults.{bad_bytes, fault_place, one_item}
use Rattle.dsp_first_fault.proofs.a_fault_has_one_place.Goals as goal

pub returns-clause-place : goal.returns-clause-place
returns-clause-place c = fault_place

pub returns-clause-one : goal.returns-clause-one
returns-clause-one c = one_item

pub returns-clause-bad : goal.returns-clause-bad
returns-clause-bad c = bad_bytes
