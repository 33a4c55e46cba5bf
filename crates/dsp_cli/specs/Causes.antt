-- Which exit statuses the top call may answer, and where each must come.
use Rattle.std.specs.Prelude.{◌≡◌, ◌⊎◌, ◌<◌, ℕ, length, None, Some, IsSome, IfSome, IsTrue, IsFalse}
use Rattle.dsp_ports.specs.Ports.{SinkState, Rose}
use Rattle.dsp_defs.specs.Canon.{canon}
use Rattle.dsp_defs.specs.Output.{output}
use Rattle.dsp_defs.specs.Reading.{first_fault}
use Rattle.dsp_defs.specs.StateFields.{HasStateFault}
use Rattle.dsp_defs.specs.declared.limits.TheConstants.{MAX_SCRIPT}
use Rattle.dsp_defs.specs.declared.state_kind.StateKind.{StateKind}
use Rattle.dsp_command.specs.Words.{command_of}
use Rattle.dsp_defs.specs.declared.au.Direction.{Direction}
use Rattle.dsp_command.specs.declared.command.Command.TheVariants.{Stop, Go, Convert, Check}
use Rattle.dsp_au.specs.Convert.{IsFree as IsConvertible}
use Rattle.dsp_check.specs.Check.{IsFree as IsCheckable}
use Rattle.dsp_cli.specs.Call.{Call}
use Rattle.dsp_cli.specs.Run.{HasText, HasBlocks, IsStream, IsPrint, IsAnswer, IsFree, IsStoppable, IsResumable}
use Rattle.dsp_cli.specs.Run.{IfWhole}
use Rattle.dsp_cli.specs.Script.{IfScript, IfState, chosen, chosen_block, is_legal_for}

-- ---- what must come

-- it is this status, or the script was not read, or memory was wanted
abbrev pub EndsEarly : ℕ → ℕ → Type 0
EndsEarly own status = (status ≡ own) ⊎ (status ≡ 6) ⊎ (status ≡ 10)

-- which statuses may come, and where one must
pub record Causes (c : Call) (status : ℕ) : Type 0 where
  -- the command may end so; 1 comes where the words are no command, and only there
  pub answer : IsAnswer (command_of c.words) status
  -- 2 must come where the script has a fault
  pub faulty : HasText (command_of c.words) → IfSome c.source.left
      (λ text. IsSome (first_fault text) → EndsEarly 2 status)
  -- 13 must come where a state has a fault, and where the text of a script that is to be stopped is too long for one
  pub bad_state : command_of c.words ≡ Some Go → IfSome c.source.left (λ bytes.
      (kind : StateKind) (offset : ℕ) → HasStateFault kind offset bytes → EndsEarly 13 status)
  pub long : (at : ℕ) → command_of c.words ≡ Some (Stop at) → IfScript c.source.left (λ s.
      IsTrue (is_legal_for s (chosen None s)) → MAX_SCRIPT < length (canon s) → EndsEarly 13 status)
  -- 3 must come where the chosen block length isn't legal
  pub illegal : HasBlocks (command_of c.words) → IfScript c.source.left
      (λ s. IsFalse (is_legal_for s (chosen_block c.words s)) → EndsEarly 3 status)
  pub illegal_state : command_of c.words ≡ Some Go → IfState c.source.left (λ s at numbers.
      IsFalse (is_legal_for s (chosen None s)) → EndsEarly 3 status)

-- ---- what must not

-- no port has failed
pub record NoneFailed (c : Call) (report told : SinkState) : Type 0 where
  pub script_kept : Rose c.source.faults c.read.faults → ⊥
  pub input_kept : Rose c.port.faults c.later.faults → ⊥
  pub output_kept : Rose c.sink.faults c.after.faults → ⊥
  pub other_kept : Rose c.other.faults c.seen.faults → ⊥
  pub report_kept : Rose report.faults told.faults → ⊥

-- it is 0 where P holds, and 11 where it does not
abbrev pub Judges : Type 0 → ℕ → Type 0
Judges P status = (P × (status ≡ 0)) ⊎ ((P → ⊥) × (status ≡ 11))

-- where nothing stands in the way and no port fails, all is done, or memory is wanted; a check says whether the file
-- is the output
pub record Completes (c : Call) (status : ℕ) (report told : SinkState) : Type 0 where
  pub runs : IsStream c.words → IfWhole (command_of c.words) c.source.left c.port (λ s bytes.
      IsFree (command_of c.words) s (chosen_block c.words s) bytes → NoneFailed c report told →
      (status ≡ 0) ⊎ (status ≡ 10))
  pub prints : IsPrint c.words → IfScript c.source.left (λ _.
      (Rose c.source.faults c.read.faults → ⊥) → (Rose report.faults told.faults → ⊥) → (status ≡ 0) ⊎ (status ≡ 10))
  pub stops : (at : ℕ) → command_of c.words ≡ Some (Stop at) → IfScript c.source.left (λ s. IfSome c.port.left (λ bytes.
      IsStoppable s at bytes → NoneFailed c report told → (status ≡ 0) ⊎ (status ≡ 10)))
  pub goes : command_of c.words ≡ Some Go → IfState c.source.left (λ s at numbers. IfSome c.port.left (λ bytes.
      IsResumable s at bytes → NoneFailed c report told → (status ≡ 0) ⊎ (status ≡ 10)))
  pub converts : (direction : Direction) → command_of c.words ≡ Some (Convert direction) → IfSome c.port.left (λ bytes.
      IsConvertible direction bytes → NoneFailed c report told → status ≡ 0)
  pub checks : command_of c.words ≡ Some Check → IfScript c.source.left
      (λ s. IfSome c.port.left (λ bytes. IfSome c.other.left (λ file.
      IsTrue (is_legal_for s (chosen None s)) → IsCheckable s bytes → NoneFailed c report told →
      Judges (file ≡ output s bytes) status ⊎ (status ≡ 10))))
