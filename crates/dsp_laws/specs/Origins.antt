-- Where each exit status of the top call comes from.
use Rattle.std.specs.Prelude.{◌≡◌, ◌≢◌, ◌⊎◌, ◌↔◌, ◌+◌, ◌<◌, ℕ, List, length, take, slice_get, None, Some, IfSome}
use Rattle.std.specs.Prelude.{IsNone, IsSome, IsFalse}
use Rattle.dsp_ports.specs.Ports.{SinkState, one_more}
use Rattle.dsp_defs.specs.Output.{input_header, output}
use Rattle.dsp_defs.specs.Reading.{first_fault}
use Rattle.dsp_command.specs.Report.{differs_line, header_line, state_line}
use Rattle.dsp_command.specs.Words.{command_of}
use Rattle.dsp_command.specs.declared.command.Command.TheVariants.{Stop, Go, Check}
use Rattle.dsp_defs.specs.Canon.{canon}
use Rattle.dsp_defs.specs.StateFields.{HasStateFault}
use Rattle.dsp_defs.specs.declared.limits.TheConstants.{MAX_INPUT, MAX_SCRIPT}
use Rattle.dsp_defs.specs.declared.state_kind.StateKind.{StateKind}
use Rattle.dsp_defs.specs.declared.state_kind.StateKind.TheVariants.{LongText}
use Rattle.dsp_defs.specs.declared.format.InputKind.TheVariants.{Wave}
use Rattle.dsp_defs.specs.declared.wave.HeaderFault.{HeaderFault}
use Rattle.dsp_session.specs.Stream.{declared_bytes, input_fault}
use Rattle.dsp_cli.specs.Call.{Call}
use Rattle.dsp_cli.specs.Run.{HasBlocks, IsStream, IsDone, Tells}
use Rattle.dsp_cli.specs.Script.{IfScript, IfState, chosen, chosen_block, is_legal_for}
use Rattle.dsp_laws.specs.Taken.{bytes_taken}

-- the input is WAVE and has this fault, and the line says it
pub record TellsHeader (c : Call) (report told : SinkState) : Type 0 where
  pub fault : HeaderFault
  pub offset : ℕ
  pub cause : IfScript c.source.left (λ s.
      (s.input.kind ≡ Wave) × IfSome c.port.left (λ bytes. input_fault s bytes ≡ Some (fault, offset)))
  pub line : Tells (header_line fault offset) report told

-- where as many bytes were taken as may be: a fault of a WAVE input was found there, or its declared samples end there
abbrev pub MayEndAtLimit : Call → ℕ → Type 0
MayEndAtLimit c status =
    ((status ≡ 4) ⊎ IsDone status)
    × IfScript c.source.left (λ s. (s.input.kind ≡ Wave)
    × (IsDone status → IfSome (bytes_taken c.port c.later) (λ given. IsSome (declared_bytes s (input_header s given)))))

-- a state is at fault, or the text of a script is too long for one, and the line says it
pub data BadState (c : Call) (report told : SinkState) : Type 0 where
  OfBytes : command_of c.words ≡ Some Go
      → IfSome c.source.left (λ bytes. (kind : StateKind) × (offset : ℕ) × HasStateFault kind offset bytes ×
      Tells (state_line kind offset) report told)
      → BadState c report told
  OfScript : (at : ℕ) → command_of c.words ≡ Some (Stop at)
      → IfScript c.source.left (λ s. (MAX_SCRIPT < length (canon s)) ×
      Tells (state_line (LongText (length (canon s))) 0) report told)
      → BadState c report told

-- up to this place both have the same bytes, and there they differ, or only one of them has ended
pub record DiffersFirst (offset : ℕ) (wanted file : List ℕ) : Type 0 where
  pub same : take offset file ≡ take offset wanted
  pub other : slice_get file offset ≢ slice_get wanted offset

-- the words are a check, the file is not the output, and the line says the first place where it differs
pub record TellsDifference (c : Call) (report told : SinkState) : Type 0 where
  pub asked : command_of c.words ≡ Some Check
  pub offset : ℕ
  pub cause : IfScript c.source.left (λ s. IfSome c.port.left (λ bytes. IfSome c.other.left (λ file.
      DiffersFirst offset (output s bytes) file)))
  pub line : Tells (differs_line offset) report told

-- the words are a check, and its other file has failed, once
pub record FailsOther (c : Call) : Type 0 where
  pub asked : command_of c.words ≡ Some Check
  pub failed : c.seen.faults ≡ one_more c.other.faults

-- of a call, its status and its report: what is so where it is this one
pub record Origins (c : Call) (status : ℕ) (report told : SinkState) : Type 0 where
  -- 1: exactly where the words are no command; the script's source is then as before
  pub usage : (status ≡ 1) ↔ IsNone (command_of c.words)
  pub script_same : status ≡ 1 → c.read ≡ c.source
  -- 2: the script has a first fault
  pub bad_script : status ≡ 2 → IfSome c.source.left (λ text. IsSome (first_fault text))
  -- 3: the chosen block length isn't legal
  pub bad_length : HasBlocks (command_of c.words) → status ≡ 3 →
      IfScript c.source.left (λ s. IsFalse (is_legal_for s (chosen_block c.words s)))
  -- and of a run that goes on, that of the script of its state
  pub bad_state_length : command_of c.words ≡ Some Go → status ≡ 3
      → IfState c.source.left (λ s at numbers. IsFalse (is_legal_for s (chosen None s)))
  -- 4 of a run or a gen: a fault of the input's header, or its end before all declared frames
  pub header : IsStream c.words → status ≡ 4 → TellsHeader c report told
  -- 5 of a run or a gen: also where as many bytes were taken as may be, unless a fault was found there or the
  -- declared samples end there
  pub limited : IsStream c.words → c.later.taken ≡ c.port.taken + MAX_INPUT
      → (status ≡ 5) ⊎ (status ≡ 8) ⊎ MayEndAtLimit c status
  -- 6 to 9: a port has failed, once
  pub script_read : status ≡ 6 → c.read.faults ≡ one_more c.source.faults
  pub input_read : status ≡ 7 → c.later.faults ≡ one_more c.port.faults
  pub output_written : status ≡ 8 → c.after.faults ≡ one_more c.sink.faults
  pub report_written : status ≡ 9 → told.faults ≡ one_more report.faults
  -- 11: the file that is checked is not the output
  pub differs : status ≡ 11 → TellsDifference c report told
  -- 13: the state of a run that goes on is at fault, or the text of a script that is to be stopped is too long for one
  pub bad_state : status ≡ 13 → BadState c report told
  -- 14: the file that is checked has failed
  pub other_read : status ≡ 14 → FailsOther c
