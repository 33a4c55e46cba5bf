-- Which fault has a status, and what is so of the script where one of its faults has it.
use Rattle.std.proofs.Common.{◌≡◌, ◌⊎◌, ℕ, ◌<◌, length, refl, subst, arith, inl, inr, None, Some, IsFalse}
use Rattle.dsp_ports.specs.Ports.{SinkState, one_more}
use Rattle.dsp_command.specs.Report.{block_length_line, differs_line, header_line, script_line, state_line}
use Rattle.dsp_defs.specs.Canon.{canon}
use Rattle.dsp_defs.specs.Shape.{unit}
use Rattle.dsp_defs.specs.declared.limits.TheConstants.{MAX_SCRIPT}
use Rattle.dsp_defs.specs.declared.state_kind.StateKind.TheVariants.{LongText}
use Rattle.dsp_defs.specs.declared.script.Script.{Script}
use Rattle.dsp_defs.specs.declared.script_fault.ScriptFault.{ScriptFault}
use Rattle.dsp_defs.specs.declared.wave.HeaderFault.{HeaderFault}
use Rattle.dsp_session.specs.declared.fault.PartFault.TheVariants as part_fault
use Rattle.dsp_session.specs.declared.fault.StreamFault.{StreamFault}
use Rattle.dsp_session.specs.declared.fault.StreamFault.TheVariants.{Header, Input, Output, Lengths}
use Rattle.dsp_cli.specs.Call.{Call, Ending, Went, Printed, Saved, Resumed, Turned, Checked, Stopped, OfText, OfState}
use Rattle.dsp_cli.specs.Call.{OfBytes, OfScript, InFirst, InRest, Refuses, Happened, Reported, Ended}
use Rattle.dsp_cli.specs.Fault.{status_of, fault_line}
use Rattle.dsp_cli.specs.Run.{HasText, HasBlocks, HasOutput, IsStream, IsDone, Tells}
use Rattle.dsp_cli.specs.Script.{IfScript, IfState, chosen, chosen_block, is_legal_for}
use Rattle.dsp_cli.specs.declared.fault.Fault.{Fault}
use Rattle.dsp_cli.specs.declared.fault.Fault.TheVariants.{Usage, ScriptRead, Script as BadText, BlockLength, Stream}
use Rattle.dsp_cli.specs.declared.fault.Fault.TheVariants.{State, Part, Conversion, Comparison}
use Rattle.dsp_au.specs.declared.fault.ConvertFault.TheVariants as convert_fault
use Rattle.dsp_check.specs.declared.fault.CheckFault.TheVariants as check_fault
use Rattle.dsp_defs.specs.declared.au.Direction.{Direction}
use Rattle.dsp_command.specs.declared.command.Command.TheVariants.{Convert, Go}
use Rattle.dsp_command.specs.Words.{command_of}
use Rattle.dsp_cli.proofs.StatusLaws.{reports_done, stream_text, stream_output, no_stop, part_status}
use Rattle.dsp_cli.proofs.StatusLaws.{conversion_status, comparison_status}
use Rattle.dsp_cli.proofs.Told.{IfSome-map, told_script}
use Rattle.dsp_cli.proofs.StateTold.{told_same_fault, told_state}
use Rattle.dsp_laws.specs.Origins.{BadState, FailsOther}
use Rattle.dsp_laws.specs.Origins as origin
use Rattle.dsp_laws.specs.Stands.{IsStopped}

-- a fault of a stream has one of its statuses
stream_status : (fault : StreamFault) → IsStopped (status_of (Stream fault))
stream_status (Header fault offset) = inl (inl refl)
stream_status (Lengths fault) = inl (inr (inl refl))
stream_status Input = inl (inr (inr refl))
stream_status Output = inr refl

-- a stream stopped by this fault
abbrev pub StreamStops : Call → StreamFault → Type 0
StreamStops c fault = Happened (Stopped (Stream fault)) c

module _ (c : Call) (report told : SinkState) where
  -- a fault with this status stopped it, and its line was told
  abbrev pub StoppedBy : ℕ → Type 0
  StoppedBy status = (fault : Fault) × Happened (Stopped fault) c × (status ≡ status_of fault) ×
      Tells (fault_line fault) report told

  pub stopped : (status n : ℕ) → Ended c status report told → status ≡ n → (IsDone n → ⊥) → StoppedBy n
  stopped status n end at undone = subst StoppedBy at (by end.ending end.happened end.reported)
    where
      by : (ending : Ending) → Happened ending c → Reported ending status report told → StoppedBy status
      by (Went script frames found) happened reported = absurd (undone (subst IsDone at (reports_done reported)))
      by (Printed script) happened reported = absurd (undone (subst IsDone at (reports_done reported)))
      by (Saved script place x) happened reported = absurd (undone (subst IsDone at (reports_done reported)))
      by (Resumed script frames found) happened reported = absurd (undone (subst IsDone at (reports_done reported)))
      by (Turned totals) happened reported = absurd (undone (subst IsDone at (reports_done reported)))
      by (Checked script size) happened reported = absurd (undone (subst IsDone at (reports_done reported)))
      by (Stopped fault) happened (is, tells) = (fault, happened, is, tells)

  -- ---- which fault it was

  pub of_usage : StoppedBy 1 → Refuses Usage c
  of_usage (Usage, happened, is, tells) = happened.0
  of_usage (Stream fault, happened, is, tells) = absurd (omega (arith, is, stream_status fault))
  of_usage (Part fault, happened, is, tells) = absurd (omega (arith, is, part_status fault))
  of_usage (Conversion fault, happened, is, tells) = absurd (omega (arith, is, conversion_status fault))
  of_usage (Comparison fault, happened, is, tells) = absurd (omega (arith, is, comparison_status fault))
  of_usage (fault, happened, is, tells) = absurd (omega (arith, is))

  pub of_script_read : StoppedBy 6 → Refuses ScriptRead c
  of_script_read (ScriptRead, happened, is, tells) = happened.0
  of_script_read (Stream fault, happened, is, tells) = absurd (omega (arith, is, stream_status fault))
  of_script_read (Part fault, happened, is, tells) = absurd (omega (arith, is, part_status fault))
  of_script_read (Conversion fault, happened, is, tells) = absurd (omega (arith, is, conversion_status fault))
  of_script_read (Comparison fault, happened, is, tells) = absurd (omega (arith, is, comparison_status fault))
  of_script_read (fault, happened, is, tells) = absurd (omega (arith, is))

  -- the text has this fault, and its line was told
  abbrev BadTextTold : Type 0
  BadTextTold = (fault : ScriptFault) × Refuses (BadText fault) c × Tells (script_line fault) report told

  pub of_text : StoppedBy 2 → BadTextTold
  of_text (BadText fault, happened, is, tells) = (fault, happened.0, tells)
  of_text (Stream fault, happened, is, tells) = absurd (omega (arith, is, stream_status fault))
  of_text (Part fault, happened, is, tells) = absurd (omega (arith, is, part_status fault))
  of_text (Conversion fault, happened, is, tells) = absurd (omega (arith, is, conversion_status fault))
  of_text (Comparison fault, happened, is, tells) = absurd (omega (arith, is, comparison_status fault))
  of_text (fault, happened, is, tells) = absurd (omega (arith, is))

  -- the chosen block length isn't legal, and its line was told
  abbrev BadLengthTold : Script → Type 0
  BadLengthTold s =
      IsFalse (is_legal_for s (chosen_block c.words s))
      × Tells (block_length_line (chosen_block c.words s) (unit s.input.channels s.blocks)) report told

  pub of_length : HasBlocks (command_of c.words) → StoppedBy 3 → IfScript c.source.left BadLengthTold
  of_length blocks (BlockLength block divisor, (OfState go read, untouched), is, tells) =
      absurd (subst HasBlocks go blocks)
  of_length blocks (BlockLength block divisor, (OfText text has, untouched), is, tells) =
      let (script, reads, illegal, block_is, divisor_is) = has.holds in
      told_script c.source c.read script BadLengthTold (record { text = has.text; read = has.read; holds = reads }) (
        subst (λ block. IsFalse (is_legal_for script block)) block_is illegal,
        subst (λ line. Tells line report told) (λ i. block_length_line (block_is i) (divisor_is i)) tells,
      )
  of_length blocks (Stream fault, happened, is, tells) = absurd (omega (arith, is, stream_status fault))
  of_length blocks (Part fault, happened, is, tells) = absurd (omega (arith, is, part_status fault))
  of_length blocks (Conversion fault, happened, is, tells) = absurd (omega (arith, is, conversion_status fault))
  of_length blocks (Comparison fault, happened, is, tells) = absurd (omega (arith, is, comparison_status fault))
  of_length blocks (fault, happened, is, tells) = absurd (omega (arith, is))

  pub of_state_length : command_of c.words ≡ Some Go → StoppedBy 3 →
      IfState c.source.left (λ s at numbers. IsFalse (is_legal_for s (chosen None s)))
  of_state_length go (BlockLength block divisor, (OfState same read, untouched), is, tells) =
      let (script, at, numbers, kept, illegal, block_is, divisor_is) = read.holds in
      told_state c.source c.read script at numbers (λ s at numbers. IsFalse (is_legal_for s (chosen None s)))
      (record { text = read.text; read = read.read; holds = kept })
      (subst (λ block. IsFalse (is_legal_for script block)) block_is illegal)
  of_state_length go (BlockLength block divisor, (OfText text has, untouched), is, tells) =
      absurd (subst HasBlocks go text)
  of_state_length go (Stream fault, happened, is, tells) = absurd (omega (arith, is, stream_status fault))
  of_state_length go (Part fault, happened, is, tells) = absurd (omega (arith, is, part_status fault))
  of_state_length go (Conversion fault, happened, is, tells) = absurd (omega (arith, is, conversion_status fault))
  of_state_length go (Comparison fault, happened, is, tells) = absurd (omega (arith, is, comparison_status fault))
  of_state_length go (fault, happened, is, tells) = absurd (omega (arith, is))

  pub of_state : StoppedBy 13 → BadState c report told
  of_state (State kind offset, (OfBytes go read, untouched), is, tells) =
      origin.OfBytes go (IfSome-map c.source.left _ _ (λ bytes fault. (kind, offset, fault, tells))
      (told_same_fault c.source c.read kind offset read))
  of_state (State kind offset, (OfScript at stop has, untouched), is, tells) =
      let (script, reads, legal, long, kind_is, offset_is) = has.holds in
      origin.OfScript at stop (told_script c.source c.read script
      (λ s. (MAX_SCRIPT < length (canon s)) × Tells (state_line (LongText (length (canon s))) 0) report told)
      (record { text = has.text; read = has.read; holds = reads })
      (long, subst (λ line. Tells line report told) (λ i. state_line (kind_is i) (offset_is i)) tells))
  of_state (Stream fault, happened, is, tells) = absurd (omega (arith, is, stream_status fault))
  of_state (Part fault, happened, is, tells) = absurd (omega (arith, is, part_status fault))
  of_state (Conversion fault, happened, is, tells) = absurd (omega (arith, is, conversion_status fault))
  of_state (Comparison fault, happened, is, tells) = absurd (omega (arith, is, comparison_status fault))
  of_state (fault, happened, is, tells) = absurd (omega (arith, is))

  -- the header has this fault, and its line was told
  abbrev BadHeaderTold : Type 0
  BadHeaderTold = (fault : HeaderFault) × (offset : ℕ) × StreamStops c (Header fault offset) ×
      Tells (header_line fault offset) report told

  -- a stream is no conversion
  no_conversion : IsStream c.words → {direction : Direction} → command_of c.words ≡ Some (Convert direction) → ⊥
  no_conversion stream asked = subst HasText asked (stream_text c.words stream)

  pub of_header : IsStream c.words → StoppedBy 4 → BadHeaderTold
  of_header stream (Stream (Header fault offset), happened, is, tells) = (fault, offset, happened, tells)
  of_header stream (Stream (Lengths fault), happened, is, tells) = absurd (omega (arith, is))
  of_header stream (Stream Input, happened, is, tells) = absurd (omega (arith, is))
  of_header stream (Stream Output, happened, is, tells) = absurd (omega (arith, is))
  of_header stream (Part fault, InFirst script at stop, is, tells) = absurd (no_stop c.words stream at stop.asked)
  of_header stream (Part fault, InRest script stop, is, tells) =
      absurd (subst HasText stop.asked (stream_text c.words stream))
  of_header stream (Conversion fault, stop, is, tells) = absurd (no_conversion stream stop.asked)
  of_header stream (Comparison fault, (script, stop), is, tells) =
      absurd (subst HasOutput stop.asked (stream_output c.words stream))
  of_header stream (fault, happened, is, tells) = absurd (omega (arith, is))

  -- a read of the input has failed, in a stream, a conversion or a check
  pub of_input : StoppedBy 7 → StreamStops c Input ⊎ (c.later.faults ≡ one_more c.port.faults)
  of_input (Stream Input, happened, is, tells) = inl happened
  of_input (Stream (Header fault offset), happened, is, tells) = absurd (omega (arith, is))
  of_input (Stream (Lengths fault), happened, is, tells) = absurd (omega (arith, is))
  of_input (Stream Output, happened, is, tells) = absurd (omega (arith, is))
  of_input (Part (part_fault.Stream Input), InFirst script at stop, is, tells) = inr stop.did.faults.0
  of_input (Part (part_fault.Stream Input), InRest script stop, is, tells) = inr stop.did.faults.0
  of_input (Part (part_fault.Stream (Header fault offset)), happened, is, tells) = absurd (omega (arith, is))
  of_input (Part (part_fault.Stream (Lengths fault)), happened, is, tells) = absurd (omega (arith, is))
  of_input (Part (part_fault.Stream Output), happened, is, tells) = absurd (omega (arith, is))
  of_input (Part (part_fault.Behind at got), happened, is, tells) = absurd (omega (arith, is))
  of_input (Conversion convert_fault.Read, stop, is, tells) = inr stop.did.faults.0
  of_input (Comparison check_fault.Read, (script, stop), is, tells) = inr stop.did.faults
  of_input (fault, happened, is, tells) = absurd (omega (arith, is))

  -- a write of the output has, in a stream or a conversion
  pub of_output : StoppedBy 8 → c.after.faults ≡ one_more c.sink.faults
  of_output (Stream Output, (script, stop), is, tells) = stop.did.faults.1
  of_output (Stream (Header fault offset), happened, is, tells) = absurd (omega (arith, is))
  of_output (Stream (Lengths fault), happened, is, tells) = absurd (omega (arith, is))
  of_output (Stream Input, happened, is, tells) = absurd (omega (arith, is))
  of_output (Part (part_fault.Stream Output), InFirst script at stop, is, tells) = stop.did.faults.1
  of_output (Part (part_fault.Stream Output), InRest script stop, is, tells) = stop.did.faults.1
  of_output (Part (part_fault.Stream (Header fault offset)), happened, is, tells) = absurd (omega (arith, is))
  of_output (Part (part_fault.Stream (Lengths fault)), happened, is, tells) = absurd (omega (arith, is))
  of_output (Part (part_fault.Stream Input), happened, is, tells) = absurd (omega (arith, is))
  of_output (Part (part_fault.Behind at got), happened, is, tells) = absurd (omega (arith, is))
  of_output (Conversion convert_fault.Write, stop, is, tells) = stop.did.faults.1
  of_output (Comparison fault, happened, is, tells) = absurd (omega (arith, is, comparison_status fault))
  of_output (fault, happened, is, tells) = absurd (omega (arith, is))

  -- the file that is checked differs from here on, and its line was told
  abbrev DifferenceTold : Type 0
  DifferenceTold = (offset : ℕ) × Happened (Stopped (Comparison (check_fault.Differs offset))) c ×
      Tells (differs_line offset) report told

  pub of_difference : StoppedBy 11 → DifferenceTold
  of_difference (Comparison (check_fault.Differs offset), happened, is, tells) = (offset, happened, tells)
  of_difference (Stream fault, happened, is, tells) = absurd (omega (arith, is, stream_status fault))
  of_difference (Part fault, happened, is, tells) = absurd (omega (arith, is, part_status fault))
  of_difference (Conversion fault, happened, is, tells) = absurd (omega (arith, is, conversion_status fault))
  of_difference (fault, happened, is, tells) = absurd (omega (arith, is))

  -- or it has failed
  pub of_other : StoppedBy 14 → FailsOther c
  of_other (Comparison check_fault.Other, (script, stop), is, tells) =
      record { asked = stop.asked; failed = stop.did.compared.cause.1 }
  of_other (Stream fault, happened, is, tells) = absurd (omega (arith, is, stream_status fault))
  of_other (Part fault, happened, is, tells) = absurd (omega (arith, is, part_status fault))
  of_other (Conversion fault, happened, is, tells) = absurd (omega (arith, is, conversion_status fault))
  of_other (fault, happened, is, tells) = absurd (omega (arith, is))
