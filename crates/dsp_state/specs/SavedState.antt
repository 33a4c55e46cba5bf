-- What a contract sees of a state that was loaded, and why none is loaded or begun.
use Rattle.std.specs.Prelude.{◌≡◌, ℕ, ℤ, ◌≤◌, ◌<◌, ◌^◌, List, length}
use Rattle.dsp_defs.specs.Canon.{canon}
use Rattle.dsp_defs.specs.KeptOfScript.{Fits}
use Rattle.dsp_defs.specs.StateBytes.{CanRun}
use Rattle.dsp_defs.specs.StateFields.{HasStateFault}
use Rattle.dsp_defs.specs.declared.limits.TheConstants.{MAX_SCRIPT}
use Rattle.dsp_defs.specs.declared.script.Script.{Script}
use Rattle.dsp_state.specs.declared.fault.LoadFault.{LoadFault}
use Rattle.dsp_state.specs.declared.fault.LoadFault.TheVariants as load_fault
use Rattle.dsp_state.specs.declared.fault.NewFault.{NewFault}
use Rattle.dsp_state.specs.declared.fault.NewFault.TheVariants as new_fault

-- a script, the frames that it has taken, and the numbers that its blocks keep of them
pub record SavedState : Type 0 where
  pub script : Script
  pub frames : ℕ
  pub numbers : List ℤ

-- it can be a state, and the blocks of its script can keep its numbers of its frames
pub record IsSaved (saved : SavedState) : Type 0 where
  pub script : CanRun saved.script
  pub short : length (canon saved.script) ≤ MAX_SCRIPT
  pub frames : saved.frames < 2 ^ 32
  pub fits : Fits saved.script saved.frames saved.numbers

-- why no state is loaded of the bytes; memory can always run out
abbrev pub IsLoadFault : LoadFault → List ℕ → Type 0
IsLoadFault (load_fault.State kind offset) bytes = HasStateFault kind offset bytes
IsLoadFault load_fault.Memory bytes = Unit {0}

-- why none is begun: the canonical text of the script is longer than a script may be, or memory has run out
abbrev pub IsNewFault : NewFault → Script → Type 0
IsNewFault (new_fault.LongText size) script = (size ≡ length (canon script)) × (MAX_SCRIPT < size)
IsNewFault new_fault.Memory script = Unit {0}
