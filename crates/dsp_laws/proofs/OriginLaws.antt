-- Where each status comes from, from how the call ended.
use Rattle.std.proofs.Common.{◌≡◌, ◌⊎◌, ◌+◌, ◌<◌, ◌≤◌, ℕ, List, [], ◌++◌, length, refl, sym, ap, ◌∙◌, subst}
use Rattle.std.proofs.Common.{arith, inl, inr, None, Some, Option, IfSome, IsSome, IsNone}
use Rattle.dsp_ports.specs.Ports.{SourceState, SinkState, Gave, one_more}
use Rattle.dsp_defs.specs.Output.{header_by, input_header, output, wanted_of}
use Rattle.dsp_defs.specs.Reading.{first_fault}
use Rattle.dsp_command.specs.Report.{differs_line, header_line}
use Rattle.dsp_command.specs.Words.{command_of}
use Rattle.dsp_command.specs.declared.command.Command.{Command}
use Rattle.dsp_defs.specs.declared.format.InputKind.{InputKind}
use Rattle.dsp_defs.specs.declared.format.InputKind.TheVariants.{Raw, Wave}
use Rattle.dsp_defs.specs.declared.limits.TheConstants.{MAX_INPUT}
use Rattle.dsp_defs.specs.declared.measure.Measure.{Measure}
use Rattle.dsp_defs.specs.declared.script.Script.{Script}
use Rattle.dsp_defs.specs.declared.wave.Header.{Header as FileHeader}
use Rattle.dsp_defs.specs.declared.wave.HeaderFault.{HeaderFault}
use Rattle.dsp_session.specs.Stream.{HasFault, declared_bytes, in_whole_frames, input_fault, wave_fault}
use Rattle.dsp_session.specs.declared.fault.StreamFault.TheVariants.{Header, Input, Output, Lengths}
use Rattle.dsp_cli.specs.Call.{Call, Ending, Went, Printed, Turned, Checked, Stopped, Streams, Refuses, Happened}
use Rattle.dsp_cli.specs.Call.{Reported, Ended, Saved, Resumed, OfText, OfState, OfBytes, OfScript, InFirst, InRest}
use Rattle.dsp_cli.specs.Run.{HasText, HasOutput, IsStream, IsRun, IsDone, Tells, read_from}
use Rattle.dsp_cli.specs.Script.{chosen}
use Rattle.dsp_cli.specs.declared.fault.Fault.TheVariants.{Usage, ScriptRead, Script as BadText, BlockLength, Memory}
use Rattle.dsp_cli.specs.declared.fault.Fault.TheVariants.{Stream, Conversion, State, Part, Comparison}
use Rattle.dsp_check.specs.declared.fault.CheckFault.TheVariants as check_fault
use Rattle.dsp_input.proofs.InputLaws.{fault_told, some_not_none}
use Rattle.dsp_cli.proofs.StatusLaws.{text_some, blocks_text, stream_text, stream_output, command_not_none}
use Rattle.dsp_cli.proofs.StatusLaws.{fault_not_done, reports_done, stream_some, source_some, no_stop}
use Rattle.dsp_cli.proofs.CheckLaws.{ready_of}
use Rattle.dsp_cli.proofs.CheckTold.{first_differs}
use Rattle.dsp_cli.proofs.StopLaws.{gen_faulty, gen_reads}
use Rattle.dsp_cli.proofs.Told.{IfSome-each, IfSome-map, told_first, told_more, told_script}
use Rattle.dsp_laws.specs.Origins.{DiffersFirst, MayEndAtLimit, Origins, TellsDifference, TellsHeader}
use Rattle.dsp_laws.specs.Taken.{bytes_taken}
use Rattle.dsp_laws.proofs.FaultLaws.{StoppedBy, StreamStops, stopped, of_usage, of_script_read, of_text, of_length}
use Rattle.dsp_laws.proofs.FaultLaws.{of_state_length, of_header, of_input, of_output, of_state, of_difference}
use Rattle.dsp_laws.proofs.FaultLaws.{of_other}
use Rattle.dsp_laws.proofs.TakenLaws.{for_given, leaves_port, reads_port}

-- ---- inputs

-- an input with a fault is WAVE
faulty_is_wave : (script : Script) (bytes : List ℕ) (fault : HeaderFault × ℕ) →
    input_fault script bytes ≡ Some fault → script.input.kind ≡ Wave
faulty_is_wave script bytes fault found = by script.input.kind refl
  where
    by : (k : InputKind) → script.input.kind ≡ k → script.input.kind ≡ Wave
    by Wave is = is
    by (Raw rate) is = absurd (some_not_none (input_fault script bytes) fault found
        (ap (λ k. elim k [ Raw rate ↦ None | Wave ↦ wave_fault script bytes ]) is))

fault_is_wave : (script : Script) (given : List ℕ) (now : SourceState) (fault : HeaderFault × ℕ) →
    HasFault script given now fault → script.input.kind ≡ Wave
fault_is_wave script given now fault (inl all) = faulty_is_wave script (given ++ []) fault (all [])
fault_is_wave script given now fault (inr (ended, here)) = faulty_is_wave script given fault here

-- an input that declares its size is WAVE
sized_is_wave : (script : Script) (given : List ℕ) (size : ℕ) → (input_header script given).size ≡ Some size →
    script.input.kind ≡ Wave
sized_is_wave script given size sized = by script.input.kind refl
  where
    by : (k : InputKind) → script.input.kind ≡ k → script.input.kind ≡ Wave
    by Wave is = is
    by (Raw rate) is =
        let none : (input_header script given).size ≡ None = ap (λ k. (header_by k (wanted_of script) given).size) is in
        let same : Some size ≡ None = sym sized ∙ none in
        cc

declares : (script : Script) (header : FileHeader) (size : ℕ) → header.size ≡ Some size →
    IsSome (declared_bytes script header)
declares script header size sized =
    subst (λ found. IsSome (elim found [
      | Some size ↦ Some (in_whole_frames script header.coding size)
      | None ↦ None
    ])) (sym sized) refl

-- ---- commands

none_is : (command : Option Command) → IsNone command → command ≡ None
none_is None none = refl
none_is (Some command) none = absurd (cc)

module _ {c : Call} {script : Script} {Did : ℕ → SourceState → SourceState → Type 0} (streams : Streams script Did c)
  where
    abbrev input : SourceState
    input = read_from (command_of c.words) script.input c.port

    -- where the port gave something, it was a run
    run_of : (count : ℕ) → 1 ≤ count → c.later.taken ≡ c.port.taken + count → IsRun c.words
    run_of count some full =
        elim streams.stream [
          | inl run ↦ run
          | inr gen ↦ let same : c.later.taken ≡ c.port.taken =
              ap (λ (s : SourceState). s.taken) (leaves_port streams gen) in absurd (omega (arith, same, full, some))
        ]

    taken_all : {given : List ℕ} (count : ℕ) → 1 ≤ count → c.later.taken ≡ c.port.taken + count →
        Gave input streams.now given → length given ≡ count
    taken_all count some full gave =
        let (from, to) = reads_port streams (run_of count some full) in
        let first : input.taken ≡ c.port.taken = ap (λ (s : SourceState). s.taken) from in
        let last : streams.now.taken ≡ c.later.taken = ap (λ (s : SourceState). s.taken) to in
        omega (arith, gave.count, first, last, full)

    -- what holds of the bytes that were read holds of those that the port gave
    for_port : {given : List ℕ} (P : List ℕ → Type 0) → IsRun c.words → Gave input streams.now given → P given →
        IfSome (bytes_taken c.port c.later) P
    for_port P run gave holds =
        let (from, to) = reads_port streams run in
        subst (λ (s : SourceState). IfSome (bytes_taken c.port s) P) to
        (subst (λ (s : SourceState). IfSome (bytes_taken s streams.now) P) from (for_given streams P gave holds))

module _ (c : Call) (status : ℕ) (report told : SinkState) where
  -- ---- the words

  -- the words are a command, where they aren't at fault
  some_command : (ending : Ending) → Happened ending c → Reported ending status report told →
      (status ≡ 1) ⊎ IsSome (command_of c.words)
  some_command (Went script frames found) went reported = inr (stream_some c.words went.stream)
  some_command (Printed script) printed reported = inr (subst IsSome (sym printed.0) refl)
  some_command (Saved script at x) saved reported = inr (subst IsSome (sym saved.asked) refl)
  some_command (Resumed script frames found) resumed reported = inr (subst IsSome (sym resumed.asked) refl)
  some_command (Stopped (Part fault)) (InFirst script at stop) reported = inr (subst IsSome (sym stop.asked) refl)
  some_command (Stopped (Part fault)) (InRest script stop) reported = inr (subst IsSome (sym stop.asked) refl)
  some_command (Stopped (State kind offset)) (OfBytes go read, untouched) reported = inr (subst IsSome (sym go) refl)
  some_command (Stopped (State kind offset)) (OfScript at stop read, untouched) reported =
      inr (subst IsSome (sym stop) refl)
  some_command (Turned totals) turned reported = inr (subst IsSome (sym turned.asked) refl)
  some_command (Checked script size) checked reported = inr (subst IsSome (sym checked.asked) refl)
  some_command (Stopped (Comparison fault)) (script, stop) reported = inr (subst IsSome (sym stop.asked) refl)
  some_command (Stopped (Conversion fault)) stop reported = inr (subst IsSome (sym stop.asked) refl)
  some_command (Stopped (Stream fault)) (script, stop) reported = inr (stream_some c.words stop.stream)
  some_command (Stopped Usage) happened reported = inl reported.0
  some_command (Stopped ScriptRead) happened reported = inr (source_some (command_of c.words) happened.0.0)
  some_command (Stopped (BadText fault)) happened reported = inr (text_some (command_of c.words) happened.0.0)
  some_command (Stopped (BlockLength block divisor)) (OfText blocks read, untouched) reported =
      inr (text_some (command_of c.words) (blocks_text (command_of c.words) blocks))
  some_command (Stopped (BlockLength block divisor)) (OfState go read, untouched) reported =
      inr (subst IsSome (sym go) refl)
  some_command (Stopped Memory) happened reported = inr (source_some (command_of c.words) happened.0)

  usage_where : Ended c status report told → IsNone (command_of c.words) → status ≡ 1
  usage_where end none =
      elim (some_command end.ending end.happened end.reported) [
        | inl one ↦ one
        | inr some ↦ absurd (command_not_none c.words some (none_is (command_of c.words) none))
      ]

  -- ---- the header

  header_told : (fault : HeaderFault) (offset : ℕ) → StreamStops c (Header fault offset) →
      Tells (header_line fault offset) report told → TellsHeader c report told
  header_told fault offset (script, stop) tells = record {
    fault = fault;
    offset = offset;
    cause = told_script c.source c.read script _ stop.read
        (fault_is_wave script stop.did.given stop.now (fault, offset) stop.did.cause, of_port stop.stream);
    line = tells;
  }
    where
      of_port : IsStream c.words → IfSome c.port.left (λ bytes. input_fault script bytes ≡ Some (fault, offset))
      of_port (inr gen) = absurd (gen_faulty c script stop.read.holds.fit.channels gen stop.now stop.did.given
          (fault, offset) stop.did.gave stop.did.cause)
      of_port (inl run) =
          let (from, to) = reads_port stop run in
          subst (λ (s : SourceState). IfSome s.left (λ bytes. input_fault script bytes ≡ Some (fault, offset))) from
          (told_more _ stop.now.left stop.did.given _ stop.did.gave.front
          (λ more left. fault_told script stop.did.given more stop.now (fault, offset) left stop.did.cause))

  -- ---- as many bytes as may be taken

  abbrev Full : Type 0
  Full = c.later.taken ≡ c.port.taken + MAX_INPUT

  abbrev AtLimit : Type 0
  AtLimit = (status ≡ 5) ⊎ (status ≡ 8) ⊎ MayEndAtLimit c status

  -- what was not called has taken nothing
  not_full : c.later ≡ c.port → Full → ⊥
  not_full same full = let taken : c.later.taken ≡ c.port.taken = ap (λ (s : SourceState). s.taken) same in
      omega (arith, taken, full)

  full_went : (script : Script) (frames : ℕ) (found : List Measure) → Happened (Went script frames found) c →
      IsDone status → Full → MayEndAtLimit c status
  full_went script frames found went done full =
      by went.did.given (taken_all went MAX_INPUT (omega arith) full went.did.gave) went.did.gave went.did.room_left
      (input_header script went.did.given).size refl
    where
      by : (given : List ℕ) → length given ≡ MAX_INPUT → Gave (read_from (command_of c.words) script.input c.port)
          went.now given
          → ((input_header script given).size ≡ None → length given < MAX_INPUT)
          → (size : Option ℕ) → (input_header script given).size ≡ size → MayEndAtLimit c status
      by given all gave room None is = absurd (omega (arith, all, room is))
      by given all gave room (Some size) is = (
        inr done,
        told_script c.source c.read script _ went.read (
          sized_is_wave script given size is,
          λ _. for_port went _ (run_of went MAX_INPUT (omega arith) full) gave
              (declares script (input_header script given) size is),
        ),
      )

  full_header : (fault : HeaderFault) (offset : ℕ) → StreamStops c (Header fault offset) → status ≡ 4 →
      MayEndAtLimit c status
  full_header fault offset (script, stop) is = (
    inl is,
    told_script c.source c.read script _ stop.read (
      fault_is_wave script stop.did.given stop.now (fault, offset) stop.did.cause,
      λ done. absurd (omega (arith, is, done)),
    ),
  )

  limited : IsStream c.words → (ending : Ending) → Happened ending c → Reported ending status report told → Full →
      AtLimit
  limited stream (Went script frames found) went reported full =
      inr (inr (full_went script frames found went (reports_done reported) full))
  limited stream (Saved script at x) saved reported full = absurd (no_stop c.words stream at saved.asked)
  limited stream (Resumed script frames found) resumed reported full =
      absurd (subst HasText resumed.asked (stream_text c.words stream))
  limited stream (Stopped (Part fault)) (InFirst script at stop) reported full =
      absurd (no_stop c.words stream at stop.asked)
  limited stream (Stopped (Part fault)) (InRest script stop) reported full =
      absurd (subst HasText stop.asked (stream_text c.words stream))
  limited stream (Turned totals) turned reported full = absurd (subst HasText turned.asked (stream_text c.words stream))
  limited stream (Stopped (Conversion fault)) stop reported full =
      absurd (subst HasText stop.asked (stream_text c.words stream))
  limited stream (Checked script size) checked reported full =
      absurd (subst HasOutput checked.asked (stream_output c.words stream))
  limited stream (Stopped (Comparison fault)) (script, stop) reported full =
      absurd (subst HasOutput stop.asked (stream_output c.words stream))
  limited stream (Printed script) printed reported full = absurd (not_full printed.2.input_same full)
  limited stream (Stopped (Stream Input)) (script, stop) reported full =
      absurd (omega (arith, taken_all stop MAX_INPUT (omega arith) full stop.did.gave, stop.did.cause.0))
  limited stream (Stopped (Stream Output)) stops reported full = inr (inl reported.0)
  limited stream (Stopped (Stream (Lengths fault))) stops reported full = inl reported.0
  limited stream (Stopped (Stream (Header fault offset))) stops reported full =
      inr (inr (full_header fault offset stops reported.0))
  limited stream (Stopped fault) happened reported full = absurd (not_full happened.1.input_same full)

  -- ---- a port has failed

  input_failed : StreamStops c Input → c.later.faults ≡ one_more c.port.faults
  input_failed (script, stop) =
      elim stop.stream [
        | inl run ↦
            let (from, to) = reads_port stop run in
            sym (ap (λ (s : SourceState). s.faults) to) ∙ stop.did.faults.0 ∙
            ap (λ (s : SourceState). one_more s.faults) from
        | inr gen ↦ absurd (gen_reads c script stop.read.holds.fit.channels gen stop.now stop.reading stop.did.faults.0)
      ]

  report_failed : (ending : Ending) → Reported ending status report told → status ≡ 9 →
      told.faults ≡ one_more report.faults
  report_failed (Went script frames found) (inl way) nine = absurd (omega (arith, nine, way.0))
  report_failed (Went script frames found) (inr way) nine = way.1
  report_failed (Printed script) (inl way) nine = absurd (omega (arith, nine, way.0))
  report_failed (Printed script) (inr way) nine = way.1
  report_failed (Saved script at x) (inl way) nine = absurd (omega (arith, nine, way.0))
  report_failed (Saved script at x) (inr way) nine = way.1
  report_failed (Resumed script frames found) (inl way) nine = absurd (omega (arith, nine, way.0))
  report_failed (Resumed script frames found) (inr way) nine = way.1
  report_failed (Turned totals) (inl way) nine = absurd (omega (arith, nine, way.0))
  report_failed (Turned totals) (inr way) nine = way.1
  report_failed (Checked script size) (inl way) nine = absurd (omega (arith, nine, way.0))
  report_failed (Checked script size) (inr way) nine = way.1
  report_failed (Stopped fault) reported nine = absurd (fault_not_done fault (subst IsDone reported.0 (inr nine)))

  -- ---- a file that differs

  difference_told : (offset : ℕ) → Happened (Stopped (Comparison (check_fault.Differs offset))) c →
      Tells (differs_line offset) report told → TellsDifference c report told
  difference_told offset (script, stop) tells = record {
    asked = stop.asked;
    offset = offset;
    cause = told_script c.source c.read script _ stop.read
        (IfSome-each c.port.left _ (λ bytes is_told. IfSome-each c.other.left
        (DiffersFirst offset (output script bytes)) (λ file file_told.
        let found = first_differs script (chosen None script) (ready_of c script _ stop)
        stop.read.holds.fit.channels.0 c.port c.later c.other c.seen c.before c.counts offset stop.did bytes file
        is_told file_told in
        record { same = found.0; other = found.1 })));
    line = tells;
  }

  -- ---- all

  pub origins : Ended c status report told → Origins c status report told
  origins end = record {
    usage = (λ is. subst IsNone (sym (usage is).0) refl, usage_where end);
    script_same = λ is. (usage is).1;
    bad_script = λ is.
        let (fault, refuses, tells) = of_text c report told (stopped_by 2 is (λ done. omega (arith, done))) in
        IfSome-map c.source.left (λ all. first_fault all ≡ Some fault) _ (λ all first. subst IsSome (sym first) refl)
        (told_first c.source c.read fault refuses.1);
    bad_length = λ blocks is. IfSome-map c.source.left _ _ (λ text all s reads. (all s reads).0)
        (of_length c report told blocks (stopped_by 3 is (λ done. omega (arith, done))));
    bad_state_length = λ go is. of_state_length c report told go (stopped_by 3 is (λ done. omega (arith, done)));
    header = λ stream is.
        let (fault, offset, stops, tells) = of_header c report told stream
        (stopped_by 4 is (λ done. omega (arith, done))) in
        header_told fault offset stops tells;
    limited = λ stream. limited stream end.ending end.happened end.reported;
    script_read = λ is. (of_script_read c report told (stopped_by 6 is (λ done. omega (arith, done)))).1;
    input_read = λ is. elim (of_input c report told (stopped_by 7 is (λ done. omega (arith, done))))
        [ inl stop ↦ input_failed stop | inr counted ↦ counted ];
    output_written = λ is. of_output c report told (stopped_by 8 is (λ done. omega (arith, done)));
    report_written = report_failed end.ending end.reported;
    differs = λ is.
        let (offset, stops, tells) = of_difference c report told (stopped_by 11 is (λ done. omega (arith, done))) in
        difference_told offset stops tells;
    other_read = λ is. of_other c report told (stopped_by 14 is (λ done. omega (arith, done)));
    bad_state = λ is. of_state c report told (stopped_by 13 is (λ done. omega (arith, done)));
  }
    where
      stopped_by : (n : ℕ) → status ≡ n → (IsDone n → ⊥) → StoppedBy c report told n
      stopped_by n is undone = stopped c report told status n end is undone

      usage : status ≡ 1 → Refuses Usage c
      usage is = of_usage c report told (stopped_by 1 is (λ done. omega (arith, done)))
