-- What a call has done by how it ended: what it left alone, what it wrote and what it counted.
use Rattle.std.proofs.Common.{◌≡◌, ℕ, ◌+◌, ◌<◌, List, length, sym, ap, ◌∙◌, subst, arith, inl, inr, Option, None, Some}
use Rattle.std.proofs.Common.{IfSome}
use Rattle.dsp_ports.specs.Ports.{append_put}
use Rattle.dsp_ports.specs.Ports.{SourceState, SinkState, IsSettled}
use Rattle.dsp_defs.specs.Generator.{generated_bytes}
use Rattle.dsp_defs.specs.Output.{input_header, input_signal, output}
use Rattle.dsp_command.specs.Report.{report_text}
use Rattle.dsp_command.specs.Words.{command_of}
use Rattle.dsp_command.specs.declared.command.Command.{Command}
use Rattle.dsp_command.specs.declared.command.Command.TheVariants.{Gen, Convert, Check}
use Rattle.dsp_defs.specs.declared.measure.Measure.{Measure}
use Rattle.dsp_defs.specs.declared.script.Script.{Script}
use Rattle.dsp_session.specs.Session.{IsReady, cost_of, measures_of}
use Rattle.dsp_session.specs.Resuming.{first_output}
use Rattle.dsp_session.specs.declared.fault.PartFault.{PartFault}
use Rattle.dsp_session.proofs.OpeningLaws.{some_frame}
use Rattle.dsp_cli.specs.Call.{Call, Untouched, HasDone, Spares, Ending, Went, Printed, Saved, Resumed, Turned, Checked}
use Rattle.dsp_cli.specs.Call.{Stopped, Streams, InFirst, InRest, OfText, OfState, OfBytes, OfScript, Happened}
use Rattle.dsp_cli.specs.Call.{Reported}
use Rattle.dsp_cli.specs.Fault.{status_of}
use Rattle.dsp_cli.specs.Run.{HasSource, HasText, HasOutput, IsGen, IsDone, IsRefusal, IsRefused, IfWhole, IsReading}
use Rattle.dsp_cli.specs.Run.{Wrote, Tells, ReportsText, read_from}
use Rattle.dsp_cli.specs.Script.{IfScript, chosen, chosen_block}
use Rattle.dsp_cli.specs.declared.fault.Fault.TheVariants.{Usage, ScriptRead, Script as BadText, BlockLength, Memory}
use Rattle.dsp_cli.specs.declared.fault.Fault.TheVariants.{Stream, State, Part, Conversion, Comparison}
use Rattle.dsp_defs.specs.Au.{target}
use Rattle.dsp_cli.proofs.CheckLaws as check
use Rattle.dsp_cli.proofs.Endings.{ends_in}
use Rattle.dsp_cli.proofs.GeneratedLaws.{generated_frames}
use Rattle.dsp_input.proofs.InputLaws.{frame_in, signal_stays, output_stays}
use Rattle.dsp_cli.proofs.ReportLaws.{tells-all}
use Rattle.dsp_cli.proofs.StatusLaws.{of_stream, blocks_text, conversion_status, comparison_status}
use Rattle.dsp_cli.proofs.StatusLaws.{reports_done, fault_not_done, refused_not_done, stream_refused}
use Rattle.dsp_cli.proofs.StatusLaws.{stream_not_refused, part_status, text_source}
use Rattle.dsp_cli.proofs.PartTold.{first_stays, rest_stays, rest_output}
use Rattle.dsp_cli.proofs.StateTold.{told_state}
use Rattle.dsp_cli.proofs.Told.{IfSome-each, IfSome-map, told_split, told_script}
use Rattle.dsp_cli.proofs.WordLaws.{gen_makes_few}

-- the script was read, and a stream begun
pub ready_of : (c : Call) (script : Script) (Did : ℕ → SourceState → SourceState → Type 0) → Streams script Did c →
    IsReady script (chosen_block c.words script)
ready_of c script Did streams = record { sound = (streams.read.text, streams.read.holds); legal = streams.legal }

module _ (c : Call) where
  gen_leaves : IsGen c.words → (now : SourceState) → IsReading (command_of c.words) c.port c.later now →
      c.later ≡ c.port
  gen_leaves (seed, frames, is) now reading = (subst (λ command. IsReading command c.port c.later now) is reading).0

  source_spares : (command : Option Command) → HasSource command → Untouched c → Spares command c
  source_spares None text untouched = absurd text
  source_spares (Some (Gen seed frames)) text untouched = (untouched.input_same, untouched.other_same)
  source_spares (Some (Convert direction)) text untouched = absurd text
  source_spares (Some Check) text untouched = untouched.output_same
  source_spares command text untouched = untouched.other_same

  text_spares : HasText (command_of c.words) → Untouched c → Spares (command_of c.words) c
  text_spares text untouched = source_spares (command_of c.words) (text_source (command_of c.words) text) untouched

  stream_spares : {script : Script} {Did : ℕ → SourceState → SourceState → Type 0} → Streams script Did c →
      Spares (command_of c.words) c
  stream_spares streams =
      of_stream c.words (λ command. Spares command c) streams.stream
      (λ named banked is. streams.other_same) (λ seed frames is.
      (gen_leaves (seed, frames, is) streams.now streams.reading, streams.other_same))

  alone : {command : Option Command} → command_of c.words ≡ command → Spares command c → Spares (command_of c.words) c
  alone is spares = subst (λ command. Spares command c) (sym is) spares

  pub spared_by : (ending : Ending) → Happened ending c → Spares (command_of c.words) c
  spared_by (Went script frames found) went = stream_spares went
  spared_by (Printed script) printed = alone printed.0 printed.2.other_same
  spared_by (Saved script at x) saved = alone saved.asked saved.other_same
  spared_by (Resumed script frames found) resumed = alone resumed.asked resumed.other_same
  spared_by (Turned totals) turned = alone turned.asked turned.spared
  spared_by (Checked script size) checked = alone checked.asked checked.output_same
  spared_by (Stopped Usage) happened = alone happened.0.0 happened.1.other_same
  spared_by (Stopped ScriptRead) happened = source_spares (command_of c.words) happened.0.0 happened.1
  spared_by (Stopped (BadText fault)) happened = text_spares happened.0.0 happened.1
  spared_by (Stopped (BlockLength block divisor)) (OfText blocks read, untouched) =
      text_spares (blocks_text (command_of c.words) blocks) untouched
  spared_by (Stopped (BlockLength block divisor)) (OfState is read, untouched) = alone is untouched.other_same
  spared_by (Stopped Memory) happened = source_spares (command_of c.words) happened.0 happened.1
  spared_by (Stopped (State kind offset)) (OfBytes is read, untouched) = alone is untouched.other_same
  spared_by (Stopped (State kind offset)) (OfScript at is read, untouched) = alone is untouched.other_same
  spared_by (Stopped (Stream fault)) (script, stop) = stream_spares stop
  spared_by (Stopped (Part fault)) (InFirst script at stop) = alone stop.asked stop.other_same
  spared_by (Stopped (Part fault)) (InRest script stop) = alone stop.asked stop.other_same
  spared_by (Stopped (Conversion fault)) stop = alone stop.asked stop.spared
  spared_by (Stopped (Comparison fault)) (script, stop) = alone stop.asked stop.output_same

module _ (c : Call) (status : ℕ) (report told : SinkState) where
  -- ---- what is left alone

  pub settled_by : (ending : Ending) → Happened ending c → Reported ending status report told →
      HasOutput (command_of c.words) → IsDone status → IsSettled c.after
  settled_by (Went script frames found) went reported output done = went.did.settled
  settled_by (Printed script) printed reported output done = absurd (subst HasOutput printed.0 output)
  settled_by (Saved script at x) saved reported output done = saved.did.3.settled
  settled_by (Resumed script frames found) resumed reported output done = resumed.did.settled
  settled_by (Turned totals) turned reported output done = turned.did.settled
  settled_by (Checked script size) checked reported output done = absurd (subst HasOutput checked.asked output)
  settled_by (Stopped fault) happened reported output done =
      absurd (fault_not_done fault (subst IsDone reported.0 done))

  -- what was done is not refused
  refusal : {command : Option Command} → command_of c.words ≡ command → (IsRefused command status → IsRefusal status) →
      IsDone status → IsRefused (command_of c.words) status → ⊥
  refusal is refuses done refused =
      refused_not_done status (refuses (subst (λ command. IsRefused command status) is refused)) done

  part_begun : {command : Option Command} → command_of c.words ≡ command → (IsRefused command status → IsRefusal status)
      → (fault : PartFault) → status ≡ status_of (Part fault) → IsRefused (command_of c.words) status → ⊥
  part_begun is refuses fault status_is refused =
      let refusal = refuses (subst (λ command. IsRefused command status) is refused) in
      omega (arith, status_is, part_status fault, refusal)

  pub untouched_by : (ending : Ending) → Happened ending c → Reported ending status report told →
      IsRefused (command_of c.words) status → Untouched c
  untouched_by (Went script frames found) went reported refused =
      absurd (refused_not_done status (stream_refused c.words status went.stream refused) (reports_done reported))
  untouched_by (Printed script) printed reported refused = printed.2
  untouched_by (Saved script at x) saved reported refused =
      absurd (refusal saved.asked (λ r. r) (reports_done reported) refused)
  untouched_by (Resumed script frames found) resumed reported refused =
      absurd (refusal resumed.asked (λ r. r) (reports_done reported) refused)
  untouched_by (Turned totals) turned reported refused =
      absurd (refusal turned.asked (λ r. r) (reports_done reported) refused)
  untouched_by (Checked script size) checked reported refused =
      absurd (refusal checked.asked (λ r. r.0) (reports_done reported) refused)
  untouched_by (Stopped (Part fault)) (InFirst script at stop) reported refused =
      absurd (part_begun stop.asked (λ r. r) fault reported.0 refused)
  untouched_by (Stopped (Part fault)) (InRest script stop) reported refused =
      absurd (part_begun stop.asked (λ r. r) fault reported.0 refused)
  untouched_by (Stopped (Comparison fault)) (script, stop) reported refused =
      let (refusal, not_memory) = subst (λ command. IsRefused command status) stop.asked refused in
      absurd (not_memory (omega (arith, reported.0, comparison_status fault, refusal)))
  untouched_by (Stopped (Stream fault)) (script, stop) reported refused =
      absurd (stream_not_refused fault (subst IsRefusal reported.0 (stream_refused c.words status stop.stream refused)))
  untouched_by (Stopped (Conversion fault)) stop reported refused =
      let refusal : IsRefusal status = subst (λ command. IsRefused command status) stop.asked refused in
      absurd (omega (arith, reported.0, conversion_status fault, refusal))
  untouched_by (Stopped fault) happened reported refused = happened.1

  -- ---- what was done

  -- the products and the report of a gen are those of so many frames of this seed
  abbrev Counted : ℕ → ℕ → Script → Type 0
  Counted seed count s =
      (c.counts.multiplies ≡ c.before.multiplies + cost_of s count) ×
      Tells (report_text s count (measures_of s (input_signal s (generated_bytes s.input seed count)))) report told

  module _ (script : Script) (frames : ℕ) (found : List Measure) (went : Happened (Went script frames found) c) where
    frame_some : 0 < frame_in script went.did.given
    frame_some = some_frame script (input_header script went.did.given).coding (chosen_block c.words script)
        (ready_of c script _ went)

    went_writes : IfWhole (command_of c.words) c.source.left c.port (λ s bytes. Wrote (output s bytes) c.sink c.after)
    went_writes =
        told_script c.source c.read script (λ s. IfSome (read_from (command_of c.words) s.input c.port).left
        (λ bytes. Wrote (output s bytes) c.sink c.after)) went.read
        (IfSome-each (read_from (command_of c.words) script.input c.port).left _ (λ bytes is_told.
        let (more, left, all) = told_split _ went.now.left went.did.given bytes went.did.gave.front is_told in
        went.did.put ∙ ap (append_put c.sink.put) (sym (ap (output script) all ∙
        output_stays script went.did.given more went.did.has frame_some went.now left went.did.whole))))

    went_counts : (seed count : ℕ) → command_of c.words ≡ Some (Gen seed count) →
        Tells (report_text script frames found) report told → IfScript c.source.left (Counted seed count)
    went_counts seed count is tells =
        let made = generated_bytes script.input seed count in
        let is_told : (read_from (command_of c.words) script.input c.port).left ≡ Some made =
        ap (λ command. (read_from command script.input c.port).left) is in
        let (more, left, all) = told_split _ went.now.left went.did.given made went.did.gave.front is_told in
        let same : input_signal script made ≡ input_signal script went.did.given = ap (input_signal script) all ∙
        signal_stays script went.did.given more went.did.has frame_some went.now left went.did.whole in
        let frames_are : frames ≡ count = went.did.frame_count ∙ sym (ap length same) ∙
        generated_frames script seed count went.read.holds.fit.channels (gen_makes_few c.words seed count is) in
        let measured : found ≡ measures_of script (input_signal script made) = went.did.measures ∙
        ap (measures_of script) (sym same) in
        told_script c.source c.read script (Counted seed count) went.read (
          went.did.cost ∙ ap (λ n. c.before.multiplies + cost_of script n) frames_are,
          subst (λ text. Tells text report told) (λ i. report_text script (frames_are i) (measured i)) tells,
        )

  report_tells : (text : List ℕ) → ReportsText text status report told → Tells text report told
  report_tells text (inl way) = tells-all report told text way.2
  report_tells text (inr way) = way.2

  abbrev Writes : Option Command → Type 0
  Writes command = IfWhole command c.source.left c.port (λ s bytes. Wrote (output s bytes) c.sink c.after)

  pub done_by : (ending : Ending) → Happened ending c → Reported ending status report told → IsDone status →
      HasDone (command_of c.words) c
  done_by (Went script frames found) went reported done =
      of_stream c.words (λ command. HasDone command c) went.stream
      (λ named banked is. subst Writes is (went_writes script frames found went))
      (λ seed count is. subst Writes is (went_writes script frames found went))
  done_by (Printed script) printed reported done = subst (λ command. HasDone command c) (sym printed.0) tt
  done_by (Saved script at x) saved reported done =
      let (session, _, _, did, first) = saved.did in
      let ready : IsReady script (chosen None script) = record
      { sound = (saved.read.text, saved.read.holds); legal = saved.legal } in
      subst (λ command. HasDone command c) (sym saved.asked)
      (told_script c.source c.read script (λ s. IfSome c.port.left
      (λ bytes. Wrote (first_output s at bytes) c.sink c.after)) saved.read
      (IfSome-each c.port.left _ (λ bytes is_told.
      let (more, left, all) = told_split _ c.later.left did.given bytes did.gave.front is_told in
      let some = some_frame script (input_header script did.given).coding (chosen None script) ready in
      did.put ∙ ap (append_put c.sink.put) (sym (ap (first_output script at) all ∙
      first_stays script did.given more did.has some at did.exact did.frame_count)))))
  done_by (Resumed script frames found) resumed reported done =
      let did = resumed.did in
      let ready : IsReady script (chosen None script) = record
      { sound = resumed.read.holds.runs.sound; legal = resumed.legal } in
      let some = some_frame script (input_header script did.given).coding (chosen None script) ready in
      subst (λ command. HasDone command c) (sym resumed.asked)
      (IfSome-each c.port.left _ (λ bytes is_told.
      let (more, left, all) = told_split _ c.later.left did.given bytes did.gave.front is_told in
      let stays = rest_stays script resumed.at did.given more did.has some c.later left did.whole in
      told_state c.source c.read script resumed.at resumed.numbers _ resumed.read
      (λ x long keeps. (
        did.written,
        did.put,
        did.output x (resumed.stands x long keeps) ∙ sym (ap (rest_output script resumed.at x) all ∙ stays x),
      ))))
  done_by (Turned totals) turned reported done =
      let did = turned.did in
      let put : (bytes : List ℕ) → target turned.direction bytes ≡ target turned.direction did.given →
      Wrote (target turned.direction bytes) c.sink c.after =
      λ bytes same. did.put ∙ ap (append_put c.sink.put) (sym same) in
      subst (λ command. HasDone command c) (sym turned.asked)
      (IfSome-map c.port.left _ (λ bytes. Wrote (target turned.direction bytes) c.sink c.after) put did.told)
  done_by (Checked script size) checked reported done =
      subst (λ command. HasDone command c) (sym checked.asked) (check.same_by c status report told script size checked)
  done_by (Stopped fault) happened reported done = absurd (fault_not_done fault (subst IsDone reported.0 done))

  abbrev GenCounted : ℕ → ℕ → Type 0
  GenCounted seed frames = IfScript c.source.left (Counted seed frames)

  pub counted_by : (ending : Ending) → Happened ending c → Reported ending status report told → (seed frames : ℕ) →
      command_of c.words ≡ Some (Gen seed frames) → IsDone status → GenCounted seed frames
  counted_by (Went script count found) went reported seed frames is done =
      went_counts script count found went seed frames is (report_tells (report_text script count found) reported)
  counted_by (Stopped fault) happened reported seed frames is done =
      absurd (fault_not_done fault (subst IsDone reported.0 done))
  counted_by ending happened reported seed frames is done = absurd (ends_in c ending happened is)
