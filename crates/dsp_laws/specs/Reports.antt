-- What the report says, but for that of a stream that is done.
use Rattle.std.specs.Prelude.{◌≡◌, ◌==◌, if◌then◌else◌, ℕ, List, length, Option, None, Some, IfSome}
use Rattle.dsp_ports.specs.Ports.{SinkState, IsSettled}
use Rattle.dsp_defs.specs.Canon.{canon}
use Rattle.dsp_defs.specs.Reading.{first_fault}
use Rattle.dsp_command.specs.Report.{block_length_line, input_read_line, memory_line, other_read_line, output_line}
use Rattle.dsp_command.specs.Report.{same_text, script_line, script_read_line, usage_line}
use Rattle.dsp_defs.specs.Shape.{unit}
use Rattle.dsp_defs.specs.declared.script_fault.ScriptFault.{ScriptFault}
use Rattle.dsp_cli.specs.Call.{Call}
use Rattle.dsp_command.specs.Words.{command_of}
use Rattle.dsp_command.specs.declared.command.Command.TheVariants.{Check}
use Rattle.dsp_cli.specs.Run.{HasBlocks, IsDone, IsPrint, Tells, Wrote}
use Rattle.dsp_cli.specs.Script.{IfScript, chosen_block}

-- where the source tells its bytes and they have a first fault, P holds of it
abbrev pub IfFault : Option (List ℕ) → (ScriptFault → Type 0) → Type 0
IfFault left P = IfSome left (λ text. (fault : ScriptFault) → first_fault text ≡ Some fault → P fault)

-- the line that goes with a status alone
abbrev pub line_of_status : ℕ → Option (List ℕ)
line_of_status status =
    if status == 1 then Some usage_line
    else (if status == 6 then Some script_read_line
    else (if status == 7 then Some input_read_line
    else (if status == 8 then Some output_line
    else (if status == 10 then Some memory_line
    else (if status == 14 then Some other_read_line
    else None)))))

-- no port counted a fault
pub record IsClean (c : Call) (report told : SinkState) : Type 0 where
  pub script_kept : c.read.faults ≡ c.source.faults
  pub input_kept : c.later.faults ≡ c.port.faults
  pub output_kept : c.after.faults ≡ c.sink.faults
  pub other_kept : c.seen.faults ≡ c.other.faults
  pub report_kept : told.faults ≡ report.faults

-- of a call, its status and its report: what was said, and that no port failed where it is 0
pub record Reports (c : Call) (status : ℕ) (report told : SinkState) : Type 0 where
  pub clean : status ≡ 0 → IsClean c report told
  pub settled : status ≡ 0 → IsSettled told
  -- a print writes the canonical text
  pub printed : IsPrint c.words → status ≡ 0 → IfScript c.source.left (λ s. Wrote (canon s) report told)
  pub unprinted : IsPrint c.words → status ≡ 9 → IfScript c.source.left (λ s. Tells (canon s) report told)
  -- a check says how many bytes the file has that is the output
  pub checked : command_of c.words ≡ Some Check → IsDone status → IfSome c.other.left (λ file.
      Tells (same_text (length file)) report told × (status ≡ 0 → Wrote (same_text (length file)) report told))
  -- a fault has its line
  pub tells : IfSome (line_of_status status) (λ line. Tells line report told)
  pub tells_fault : status ≡ 2 → IfFault c.source.left (λ fault. Tells (script_line fault) report told)
  pub tells_length : HasBlocks (command_of c.words) → status ≡ 3 → IfScript c.source.left (λ s.
      Tells (block_length_line (chosen_block c.words s) (unit s.input.channels s.blocks)) report told)
