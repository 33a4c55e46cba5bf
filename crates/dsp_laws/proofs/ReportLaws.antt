-- What the report says, from how the call ended.
use Rattle.std.proofs.Common.{◌≡◌, ℕ, length, sym, ap, ◌∙◌, subst, arith, inl, inr, Some, IfSome}
use Rattle.dsp_ports.specs.Ports.{SourceState, SinkState, IsSettled}
use Rattle.dsp_defs.specs.Canon.{canon}
use Rattle.dsp_defs.specs.Output.{output}
use Rattle.dsp_defs.specs.Reading.{first_fault}
use Rattle.dsp_command.specs.Report.{same_text, script_line}
use Rattle.dsp_command.specs.Words.{command_of}
use Rattle.dsp_defs.specs.declared.script.Script.{Script}
use Rattle.dsp_command.specs.declared.command.Command.TheVariants.{Print, Stop, Check}
use Rattle.dsp_session.specs.declared.fault.PartFault.TheVariants as part_fault
use Rattle.dsp_session.specs.declared.fault.StreamFault.TheVariants.{Header, Input, Output, Lengths}
use Rattle.dsp_cli.specs.Call.{Call, Ending, Went, Printed, Saved, Resumed, Turned, Checked, Stopped, Streams}
use Rattle.dsp_cli.specs.Call.{Happened, Reported, Ended}
use Rattle.dsp_cli.specs.Fault.{status_of, fault_line}
use Rattle.dsp_cli.specs.Run.{HasText, HasBlocks, HasOutput, IsPrint, IsDone, Wrote, Tells, read_from}
use Rattle.dsp_cli.specs.Script.{IfScript}
use Rattle.dsp_cli.specs.declared.fault.Fault.{Fault}
use Rattle.dsp_cli.specs.declared.fault.Fault.TheVariants.{Usage, ScriptRead, Script as BadText, BlockLength, Memory}
use Rattle.dsp_cli.specs.declared.fault.Fault.TheVariants.{Stream, State, Part, Conversion, Comparison}
use Rattle.dsp_au.specs.declared.fault.ConvertFault.TheVariants as convert_fault
use Rattle.dsp_check.specs.declared.fault.CheckFault.TheVariants as check_fault
use Rattle.dsp_cli.proofs.StatusLaws.{reports_done, fault_not_done, stream_or_print, stream_output}
use Rattle.dsp_cli.proofs.Told.{IfSome-map, told_first, told_script, told_whole}
use Rattle.dsp_laws.specs.Reports.{IfFault, IsClean, Reports, line_of_status}
use Rattle.dsp_laws.proofs.FaultLaws.{stopped, of_text, of_length}
use Rattle.dsp_laws.proofs.TakenLaws.{leaves_port, reads_port}
use Rattle.dsp_laws.proofs.TextLaws.{text_told, text_wrote, text_kept, text_settled}

-- ---- the port of the input

-- a stream that kept the faults of what it has read kept those of the port
port_kept : {c : Call} {script : Script} {Did : ℕ → SourceState → SourceState → Type 0} (streams : Streams script Did c)
    → streams.now.faults ≡ (read_from (command_of c.words) script.input c.port).faults → c.later.faults ≡ c.port.faults
port_kept streams same =
    elim streams.stream [
      | inl run ↦
          let (from, to) = reads_port streams run in
          sym (ap (λ (s : SourceState). s.faults) to) ∙ same ∙ ap (λ (s : SourceState). s.faults) from
      | inr gen ↦ ap (λ (s : SourceState). s.faults) (leaves_port streams gen)
    ]

module _ (c : Call) (status : ℕ) (report told : SinkState) where
  -- ---- the texts

  clean : (ending : Ending) → Happened ending c → Reported ending status report told → status ≡ 0 →
      IsClean c report told
  clean (Went script frames found) went reported zero = record {
    script_kept = went.read.read.no_fault;
    input_kept = port_kept went went.did.no_input_fault;
    output_kept = went.did.no_output_fault;
    other_kept = ap (λ (s : SourceState). s.faults) went.other_same;
    report_kept = text_kept reported zero;
  }
  clean (Printed script) printed reported zero = record {
    script_kept = printed.1.read.no_fault;
    input_kept = ap (λ (s : SourceState). s.faults) printed.2.input_same;
    output_kept = ap (λ (s : SinkState). s.faults) printed.2.output_same;
    other_kept = ap (λ (s : SourceState). s.faults) printed.2.other_same;
    report_kept = text_kept reported zero;
  }
  clean (Saved script at x) saved reported zero = record {
    script_kept = saved.read.read.no_fault;
    input_kept = saved.did.3.no_input_fault;
    output_kept = saved.did.3.no_output_fault;
    other_kept = ap (λ (s : SourceState). s.faults) saved.other_same;
    report_kept = text_kept reported zero;
  }
  clean (Resumed script frames found) resumed reported zero = record {
    script_kept = resumed.read.read.no_fault;
    input_kept = resumed.did.no_input_fault;
    output_kept = resumed.did.no_output_fault;
    other_kept = ap (λ (s : SourceState). s.faults) resumed.other_same;
    report_kept = text_kept reported zero;
  }
  clean (Turned totals) turned reported zero = record {
    script_kept = ap (λ (s : SourceState). s.faults) turned.spared.script_same;
    input_kept = turned.did.no_input_fault;
    output_kept = turned.did.no_output_fault;
    other_kept = ap (λ (s : SourceState). s.faults) turned.spared.other_same;
    report_kept = text_kept reported zero;
  }
  clean (Checked script size) checked reported zero = record {
    script_kept = checked.read.read.no_fault;
    input_kept = checked.did.no_fault;
    output_kept = ap (λ (s : SinkState). s.faults) checked.output_same;
    other_kept = checked.did.all.no_fault;
    report_kept = text_kept reported zero;
  }
  clean (Stopped fault) happened reported zero = absurd (fault_not_done fault (subst IsDone reported.0 (inl zero)))

  settled : (ending : Ending) → Happened ending c → Reported ending status report told → status ≡ 0 → IsSettled told
  settled (Went script frames found) went reported zero = text_settled reported zero
  settled (Printed script) printed reported zero = text_settled reported zero
  settled (Saved script at x) saved reported zero = text_settled reported zero
  settled (Resumed script frames found) resumed reported zero = text_settled reported zero
  settled (Turned totals) turned reported zero = text_settled reported zero
  settled (Checked script size) checked reported zero = text_settled reported zero
  settled (Stopped fault) happened reported zero = absurd (fault_not_done fault (subst IsDone reported.0 (inl zero)))

  -- what a print has done with its text, and whether it is all
  print_told : (ending : Ending) → Happened ending c → Reported ending status report told → IsPrint c.words →
      IsDone status
      → IfScript c.source.left (λ s. Tells (canon s) report told × (status ≡ 0 → Wrote (canon s) report told))
  print_told (Went script frames found) went reported print done = absurd (stream_or_print c.words went.stream print)
  print_told (Printed script) printed reported print done =
      told_script c.source c.read script (λ s. Tells (canon s) report told ×
      (status ≡ 0 → Wrote (canon s) report told)) printed.1
      (text_told reported, text_wrote reported)
  print_told (Saved script at x) saved reported print done =
      absurd (let same : Some Print ≡ Some (Stop at) = sym print ∙ saved.asked in cc)
  print_told (Resumed script frames found) resumed reported print done =
      absurd (subst HasText (sym print ∙ resumed.asked) tt)
  print_told (Turned totals) turned reported print done = absurd (subst HasText (sym print ∙ turned.asked) tt)
  print_told (Checked script size) checked reported print done = absurd (subst HasBlocks (sym checked.asked ∙ print) tt)
  print_told (Stopped fault) happened reported print done = absurd (fault_not_done fault (subst IsDone reported.0 done))

  -- what a check has said of a file that is the output, and whether it is all
  abbrev SameTold : Type 0
  SameTold = IfSome c.other.left (λ file. Tells (same_text (length file)) report told ×
      (status ≡ 0 → Wrote (same_text (length file)) report told))

  same_told : (script : Script) (size : ℕ) → Happened (Checked script size) c →
      Reported (Checked script size) status report told → SameTold
  same_told script size checked reported =
      let did = checked.did in
      IfSome-map c.other.left (λ file. file ≡ output script did.given) _
      (λ file same.
      let text : same_text size ≡ same_text (length file) = ap same_text (did.size_is ∙ sym (ap length same)) in (
        subst (λ text. Tells text report told) text (text_told reported),
        λ zero. subst (λ text. Wrote text report told) text (text_wrote reported zero),
      ))
      (told_whole c.other.left c.seen.left (output script did.given) did.all.gave.front did.all.end)

  check_told : (ending : Ending) → Happened ending c → Reported ending status report told →
      command_of c.words ≡ Some Check → IsDone status → SameTold
  check_told (Went script frames found) went reported check done =
      absurd (subst HasOutput check (stream_output c.words went.stream))
  check_told (Printed script) printed reported check done = absurd (subst HasBlocks (sym check ∙ printed.0) tt)
  check_told (Saved script at x) saved reported check done = absurd (subst HasOutput (sym saved.asked ∙ check) tt)
  check_told (Resumed script frames found) resumed reported check done =
      absurd (subst HasOutput (sym resumed.asked ∙ check) tt)
  check_told (Turned totals) turned reported check done = absurd (subst HasOutput (sym turned.asked ∙ check) tt)
  check_told (Checked script size) checked reported check done = same_told script size checked reported
  check_told (Stopped fault) happened reported check done = absurd (fault_not_done fault (subst IsDone reported.0 done))

  -- ---- the lines

  abbrev LineTold : ℕ → Type 0
  LineTold n = IfSome (line_of_status n) (λ line. Tells line report told)

  done_line : IsDone status → LineTold status
  done_line (inl zero) = subst LineTold (sym zero) tt
  done_line (inr nine) = subst LineTold (sym nine) tt

  fault_told : (fault : Fault) → Tells (fault_line fault) report told → LineTold (status_of fault)
  fault_told Usage tells = tells
  fault_told ScriptRead tells = tells
  fault_told (BadText fault) tells = tt
  fault_told (BlockLength block divisor) tells = tt
  fault_told Memory tells = tells
  fault_told (Stream (Header fault offset)) tells = tt
  fault_told (Stream (Lengths fault)) tells = tt
  fault_told (Stream Input) tells = tells
  fault_told (Stream Output) tells = tells
  fault_told (State kind offset) tells = tt
  fault_told (Part (part_fault.Behind at got)) tells = tt
  fault_told (Part (part_fault.Stream (Header fault offset))) tells = tt
  fault_told (Part (part_fault.Stream (Lengths fault))) tells = tt
  fault_told (Part (part_fault.Stream Input)) tells = tells
  fault_told (Part (part_fault.Stream Output)) tells = tells
  fault_told (Conversion convert_fault.Read) tells = tells
  fault_told (Conversion convert_fault.Write) tells = tells
  fault_told (Conversion fault) tells = tt
  fault_told (Comparison check_fault.Read) tells = tells
  fault_told (Comparison check_fault.Memory) tells = tells
  fault_told (Comparison check_fault.Other) tells = tells
  fault_told (Comparison fault) tells = tt

  line_told : (ending : Ending) → Reported ending status report told → LineTold status
  line_told (Went script frames found) reported = done_line (reports_done reported)
  line_told (Printed script) reported = done_line (reports_done reported)
  line_told (Saved script at x) reported = done_line (reports_done reported)
  line_told (Resumed script frames found) reported = done_line (reports_done reported)
  line_told (Turned totals) reported = done_line (reports_done reported)
  line_told (Checked script size) reported = done_line (reports_done reported)
  line_told (Stopped fault) (is, tells) = subst LineTold (sym is) (fault_told fault tells)

  text_fault : Ended c status report told → status ≡ 2 →
      IfFault c.source.left (λ fault. Tells (script_line fault) report told)
  text_fault end is =
      let (fault, refuses, tells) = of_text c report told
      (stopped c report told status 2 end is (λ done. omega (arith, done))) in
      IfSome-map c.source.left (λ all. first_fault all ≡ Some fault) _
      (λ all first other found. let same : fault ≡ other = cc in
      subst (λ fault. Tells (script_line fault) report told) same tells)
      (told_first c.source c.read fault refuses.1)

  pub reports : Ended c status report told → Reports c status report told
  reports end = record {
    clean = clean end.ending end.happened end.reported;
    settled = settled end.ending end.happened end.reported;
    printed = λ print zero. IfSome-map c.source.left _ _ (λ text all s reads. (all s reads).1 zero)
        (print_told end.ending end.happened end.reported print (inl zero));
    unprinted = λ print nine. IfSome-map c.source.left _ _ (λ text all s reads. (all s reads).0)
        (print_told end.ending end.happened end.reported print (inr nine));
    checked = check_told end.ending end.happened end.reported;
    tells = line_told end.ending end.reported;
    tells_fault = text_fault end;
    tells_length = λ blocks is.
        IfSome-map c.source.left _ _ (λ text all s reads. (all s reads).1)
        (of_length c report told blocks (stopped c report told status 3 end is (λ done. omega (arith, done))));
  }
