-- What stands once a stream has begun, from how the call ended.
use Rattle.std.proofs.Common.{◌≡◌, ◌⊎◌, ℕ, ◌+◌, ◌≤◌, List, ap, ◌∙◌, subst, arith, inl, inr, None}
use Rattle.dsp_ports.specs.Ports.{append_put}
use Rattle.dsp_ports.specs.Ports.{SourceState, SinkState}
use Rattle.dsp_defs.specs.Output.{HasHeader, input_header, output, part}
use Rattle.dsp_command.specs.Report.{report_text, riff_line, input_limit_line}
use Rattle.dsp_defs.specs.Shape.{window_at, gathered}
use Rattle.dsp_command.specs.Words.{command_of}
use Rattle.dsp_defs.specs.declared.limits.TheConstants.{MAX_GATHERED}
use Rattle.dsp_defs.specs.declared.measure.Measure.{Measure}
use Rattle.dsp_defs.specs.declared.script.Script.{Script}
use Rattle.dsp_session.specs.Session.{cost_of, run_turns}
use Rattle.dsp_session.specs.Stream.{Stopped as StreamStopped, Nothing, Part, WrotePart as StreamWrote, KeepsLimits}
use Rattle.dsp_session.specs.Stream.{IsTakenWhole, frames_in_bytes}
use Rattle.dsp_session.specs.declared.fault.StreamFault.{StreamFault}
use Rattle.dsp_session.specs.declared.fault.StreamFault.TheVariants.{Header, Input, Output, Lengths}
use Rattle.dsp_cli.specs.Call.{Call, Ending, Went, Printed, Turned, Checked, Stopped, Streams, Happened, Reported}
use Rattle.dsp_cli.specs.Call.{Ended, Saved, Resumed, InFirst, InRest}
use Rattle.dsp_cli.specs.Fault.{status_of, fault_line}
use Rattle.dsp_cli.specs.Run.{HasText, HasOutput, IsStream, IsDone, Tells, ReportsText, read_from}
use Rattle.dsp_cli.specs.Script.{chosen_block, is_banked}
use Rattle.dsp_cli.specs.declared.fault.Fault.TheVariants.{Usage, ScriptRead, Script as BadText, BlockLength, Memory}
use Rattle.dsp_cli.specs.declared.fault.Fault.TheVariants.{Stream, Conversion, State, Part, Comparison}
use Rattle.dsp_cli.proofs.StatusLaws.{stream_text, stream_output, reports_done, fault_not_done, stream_or_print}
use Rattle.dsp_cli.proofs.StatusLaws.{no_stop}
use Rattle.dsp_laws.specs.Stands.{IsBroken, IsStopped, Stands, Taken, Gather, Window, Riff, TellsLength, WroteFront}
use Rattle.dsp_laws.specs.Stands.{WasLeft, WrotePart}
use Rattle.dsp_laws.proofs.TextLaws.{text_told, text_wrote}
use Rattle.dsp_laws.proofs.TakenLaws.{reader, for_script, for_given, for_taken, within_most, took_frames}
use Rattle.dsp_session.specs.declared.fault.LengthFault.TheVariants as length_fault

module _ (c : Call) (status : ℕ) (report told : SinkState) where
  abbrev Standing : Type 0
  Standing = Stands c status report told

  went_stands : (script : Script) (frames : ℕ) (found : List Measure) → Happened (Went script frames found) c
      → ReportsText (report_text script frames found) status report told → Standing
  went_stands script frames found went reported =
      let d = went.did in
      let is_done = reports_done reported in
      let exact : c.counts.multiplies ≡ c.before.multiplies + cost_of script (frames_in_bytes script d.given) =
      d.cost ∙ ap (λ n. c.before.multiplies + cost_of script n) d.frame_count in
      record {
        input = read_from (command_of c.words) script.input c.port;
        now = went.now;
        reader = reader went;
        ended = λ _. for_taken went _ d.gave (d.has, d.whole);
        in_limits = λ _. for_taken went _ d.gave
            (subst (λ n. KeepsLimits script (input_header script d.given) n × (window_at script.blocks n ≡ None))
            d.frame_count (d.limits, d.no_window));
        part = λ is. absurd (omega (arith, is_done, is));
        unflushed = λ is. absurd (omega (arith, is_done, is));
        front = λ is. absurd (omega (arith, is_done, is));
        lag = for_taken went _ d.gave (output script d.given, d.put, λ _. d.lag);
        lengths = λ is. absurd (omega (arith, is_done, is));
        cost = for_taken went _ d.gave (omega (arith, exact));
        most = for_script went _ (within_most went d.gave (omega (arith, exact)));
        exact_cost = λ _. for_script went _ (frames, took_frames went d.gave d.frame_count, d.cost);
        turns = for_taken went _ d.gave
            (subst (λ n. c.counts.turns ≤ c.before.turns + run_turns (is_banked c.words) script
            (chosen_block c.words script) n) d.frame_count d.turns);
        reported = λ _. for_script went _ (
          frames,
          found,
          took_frames went d.gave d.frame_count,
          for_given went _ d.gave d.measures,
          text_told reported,
          text_wrote reported,
        );
      }

  -- what was written by a stream that has stopped
  part_written : {script : Script} {block worked : ℕ} {given written : List ℕ} →
      c.after.put ≡ append_put c.sink.put written
      → StreamWrote script block worked given written c.sink c.after c.before c.counts →
      WrotePart script block given c.sink c.after
  part_written put (Nothing none same) = inr (inl none, same)
  part_written put (Part has is limits made) = inl (has, put ∙ ap (append_put c.sink.put) is)

  -- a stream of this script was stopped by this fault
  abbrev Stops : Script → StreamFault → Type 0
  Stops script fault = Streams script (λ block input now. StreamStopped (is_banked c.words) script block fault input
      now c.sink c.after c.before c.counts) c

  module _ {script : Script} {fault : StreamFault} (stop : Stops script fault)
      (is : status ≡ status_of (Stream fault)) where
    abbrev source_input : SourceState
    source_input = read_from (command_of c.words) script.input c.port

    abbrev s : StreamStopped (is_banked c.words) script (chosen_block c.words script) fault source_input stop.now
        c.sink c.after c.before c.counts
    s = stop.did

    abbrev Parts : Type 0
    Parts = IsBroken status → WrotePart script (chosen_block c.words script) s.given c.sink c.after

    abbrev Fronts : Type 0
    Fronts = status ≡ 8 → HasHeader script s.given
        × (WroteFront (part script (chosen_block c.words script) s.given) c.sink c.after ⊎
        (WroteFront (output script s.given) c.sink c.after × IsTakenWhole script s.given stop.now))

    abbrev LengthsTold : Type 0
    LengthsTold = status ≡ 5 → TellsLength c source_input stop.now report told

    stopped_stands : Parts → (IsBroken status → WasLeft c.sink c.after) → Fronts → LengthsTold → Standing
    stopped_stands parts kept fronts lengths =
        record {
          input = source_input;
          now = stop.now;
          reader = reader stop;
          ended = λ done. absurd (fault_not_done (Stream fault) (subst IsDone is done));
          in_limits = λ done. absurd (fault_not_done (Stream fault) (subst IsDone is done));
          part = λ broken. for_taken stop _ s.gave (parts broken);
          unflushed = kept;
          front = λ eight. for_taken stop _ s.gave (fronts eight);
          lag = for_taken stop _ s.gave (s.written, s.put, s.lag);
          lengths = lengths;
          cost = for_taken stop _ s.gave s.cost;
          most = for_script stop _ (within_most stop s.gave s.cost);
          exact_cost = λ done. absurd (fault_not_done (Stream fault) (subst IsDone is done));
          turns = for_taken stop _ s.gave s.turns;
          reported = λ done. absurd (fault_not_done (Stream fault) (subst IsDone is done));
        }

  stop_stands : (script : Script) (fault : StreamFault) → Stops script fault → status ≡ status_of (Stream fault)
      → Tells (fault_line (Stream fault)) report told → Standing
  stop_stands script Input stop is tells =
      let s = stop.did in
      stopped_stands stop is (λ _. part_written s.put s.wrote) (λ _. (s.faults.1, (s.written, s.put, s.unflushed)))
      (λ e. absurd (omega (arith, is, e)))
      (λ e. absurd (omega (arith, is, e)))
  stop_stands script Output stop is tells =
      let s = stop.did in
      stopped_stands stop is (λ broken. absurd (omega (arith, is, broken)))
      (λ broken. absurd (omega (arith, is, broken)))
      (λ _. (
        s.cause,
        elim s.wrote.1 [
          | inl front ↦ inl (s.written, s.put, front.0)
          | inr front ↦ inr
              ((s.written, s.put, front.0), front.1)
        ],
      )) (λ e. absurd (omega (arith, is, e)))
  stop_stands script (Header fault offset) stop is tells =
      let s = stop.did in
      stopped_stands stop is (λ _. part_written s.put s.wrote) (λ _. (s.faults.1, (s.written, s.put, s.unflushed)))
      (λ e. absurd (omega (arith, is, e)))
      (λ e. absurd (omega (arith, is, e)))
  stop_stands script (Lengths (length_fault.Input taken limit)) stop is tells =
      let s = stop.did in
      stopped_stands stop is (λ _. part_written s.put s.wrote) (λ _. (s.faults.1, (s.written, s.put, s.unflushed)))
      (λ e. absurd (omega (arith, is, e)))
      (λ _. Taken (omega (arith, s.gave.count, s.cause.0)) (for_taken stop _ s.gave s.cause.3)
      (subst (λ line. Tells line report told) (λ i. input_limit_line (s.cause.1 i) (s.cause.2 i)) tells))
  stop_stands script (Lengths (length_fault.Gather has more)) stop is tells =
      let s = stop.did in
      stopped_stands stop is (λ _. part_written s.put s.wrote) (λ _. (s.faults.1, (s.written, s.put, s.unflushed)))
      (λ e. absurd (omega (arith, is, e)))
      (λ _. Gather has more (for_taken stop _ s.gave (s.cause.0, (kept s.wrote s.cause.0, s.cause.1))) tells)
    where
      kept : {given written : List ℕ} {worked : ℕ} → StreamWrote script (chosen_block c.words script) worked given
          written c.sink c.after c.before c.counts
          → HasHeader script given → gathered script.blocks worked ≤ MAX_GATHERED
      kept (Nothing none same) has = absurd (none has)
      kept (Part has is limits made) _ = limits.not_full
  stop_stands script (Lengths (length_fault.Window end full)) stop is tells =
      let s = stop.did in
      stopped_stands stop is (λ _. part_written s.put s.wrote) (λ _. (s.faults.1, (s.written, s.put, s.unflushed)))
      (λ e. absurd (omega (arith, is, e)))
      (λ _. Window end full (for_taken stop _ s.gave s.cause) tells)
  stop_stands script (Lengths (length_fault.Riff size limit)) stop is tells =
      let s = stop.did in
      let (has, alone, long, at) = s.cause in
      stopped_stands stop is (λ _. inr (inr (size, long), s.wrote)) (λ _. (s.faults.1, (s.written, s.put, s.unflushed)))
      (λ e. absurd (omega (arith, is, e)))
      (λ _. Riff size (for_taken stop _ s.gave (has, alone, long))
      s.wrote (subst (λ n. Tells (riff_line size n) report told) at tells))

  pub stands : Ended c status report told → IsStream c.words → IsDone status ⊎ IsStopped status → Standing
  stands end stream begun = by end.ending end.happened end.reported
    where
      by : (ending : Ending) → Happened ending c → Reported ending status report told → Standing
      by (Went script frames found) went reported = went_stands script frames found went reported
      by (Printed script) printed reported = absurd (stream_or_print c.words stream printed.0)
      by (Saved script at x) saved reported = absurd (no_stop c.words stream at saved.asked)
      by (Resumed script frames found) resumed reported =
          absurd (subst HasText resumed.asked (stream_text c.words stream))
      by (Stopped (Part fault)) (InFirst script at stop) reported = absurd (no_stop c.words stream at stop.asked)
      by (Stopped (Part fault)) (InRest script stop) reported =
          absurd (subst HasText stop.asked (stream_text c.words stream))
      by (Stopped (State kind offset)) happened (is, tells) = absurd (omega (arith, is, begun))
      by (Turned totals) turned reported = absurd (subst HasText turned.asked (stream_text c.words stream))
      by (Checked script size) checked reported = absurd (subst HasOutput checked.asked (stream_output c.words stream))
      by (Stopped (Comparison fault)) (script, stop) reported =
          absurd (subst HasOutput stop.asked (stream_output c.words stream))
      by (Stopped (Conversion fault)) stop reported = absurd (subst HasText stop.asked (stream_text c.words stream))
      by (Stopped (Stream fault)) (script, stop) (is, tells) = stop_stands script fault stop is tells
      by (Stopped Usage) happened (is, tells) = absurd (omega (arith, is, begun))
      by (Stopped ScriptRead) happened (is, tells) = absurd (omega (arith, is, begun))
      by (Stopped (BadText fault)) happened (is, tells) = absurd (omega (arith, is, begun))
      by (Stopped (BlockLength block divisor)) happened (is, tells) = absurd (omega (arith, is, begun))
      by (Stopped Memory) happened (is, tells) = absurd (omega (arith, is, begun))
