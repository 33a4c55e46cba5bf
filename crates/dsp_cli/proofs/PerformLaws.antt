-- What a run comes to for the words that ask for it.
use Rattle.std.proofs.Common.{◌≡◌, ◌≤◌, ℕ, Bool, List, length, ◌++◌, Option, None, Some, IsTrue, IsFalse, refl, sym, ap}
use Rattle.std.proofs.Common.{◌∙◌, subst, flat_map, codes, inl, inr, Result, IfErr}
use Rattle.std.proofs.lemmas.Result.{err_from_is_err_and}
use Rattle.std.specs.Result.{IsErrAnd}
use Rattle.dsp_ports.specs.Ports.{SourceState, SinkState}
use Rattle.dsp_defs.specs.Counts.{Counts}
use Rattle.dsp_defs.specs.Output.{format_of, channels_of, input_signal}
use Rattle.dsp_command.specs.Report.{done_line, frames_line, multiplies_line, measure_line, report_text, same_text}
use Rattle.dsp_defs.specs.Shape.{frames_given}
use Rattle.dsp_command.specs.Words.{command_of}
use Rattle.dsp_command.specs.declared.command.Command.{Command}
use Rattle.dsp_command.specs.declared.command.Command.TheVariants.{Run, Gen, Stop, Go, Check}
use Rattle.dsp_defs.specs.declared.measure.Measure.{Measure}
use Rattle.dsp_defs.specs.declared.script.Script.{Script}
use Rattle.dsp_defs.specs.Canon.{canon}
use Rattle.dsp_defs.specs.KeptOfScript.{kept}
use Rattle.dsp_defs.specs.StateBytes.{state_of}
use Rattle.dsp_defs.specs.declared.limits.TheConstants.{MAX_SCRIPT}
use Rattle.dsp_resume.specs.ResumeState.{IsNewResume, IsResumed, ResumeState, Saves}
use Rattle.dsp_session.specs.Resuming.{FirstDone, RestDone, RestStopped}
use Rattle.dsp_session.specs.declared.fault.PartFault.{PartFault}
use Rattle.dsp_session.specs.SessionState.{SessionState}
use Rattle.dsp_state.specs.SavedState.{SavedState}
use Rattle.dsp_session.specs.Session.{cost_of}
use Rattle.dsp_session.specs.Stream.{Done, Stopped as StreamStopped}
use Rattle.dsp_cli.specs.Fault.{summary_text}
use Rattle.dsp_cli.specs.Call.{Call, call, Untouched, Streams, Went, Saved, Resumed, Checked, Stopped, OfText, OfState}
use Rattle.dsp_cli.specs.Call.{GoesOn, OfScript, InFirst, InRest, Happened, RefusesLength}
use Rattle.dsp_cli.specs.Perform.{NotBegun, Compared, FailsToCompare, ReadsAs, Ran, RanGenerated, Made, FailsToRun}
use Rattle.dsp_cli.specs.Perform.{FailsToGenerate, LoadsState, RanFirst, FailsToStop, RanRest, FailsToGoOn}
use Rattle.dsp_cli.specs.Perform.{Continues, StopsAtLength, StopsInRest}
use Rattle.dsp_cli.specs.Run.{HasSource, HasBlocks, IsStream, IsReading, read_from}
use Rattle.dsp_cli.specs.Script.{named_by, banked_by, chosen, is_banked, is_legal_for}
use Rattle.dsp_cli.specs.declared.fault.Fault.{Fault}
use Rattle.dsp_cli.specs.declared.fault.Fault.TheVariants.{BlockLength, Memory, Stream, State, Part, Comparison}
use Rattle.dsp_cli.proofs.StatusLaws.{block_of, stream_blocks, stream_text, text_source}
use Rattle.dsp_cli.specs.declared.report.Summary.{Summary}

-- what holds of an error holds of the result that it was made into
pub err_of : {T E : Type 0} (r : Result T E) (P : E → Type 0) {y : E} → IsErrAnd r (λ e. e ≡ y) → P y → IfErr r P
err_of r P is holds = let (error, result_is, same) = err_from_is_err_and r is in rw (result_is, same) holds

-- the summary of a session is the report of just that
pub text_by : (script : Script) (summary : Summary) →
    summary.input ≡ record { format = script.input.format; channels = script.input.channels }
    → summary.output ≡ record { format = format_of script; channels = channels_of script } →
    summary.totals.frames_given ≡ frames_given script.blocks summary.totals.frames_taken
    → summary.totals.multiplies ≡ cost_of script summary.totals.frames_taken →
    summary_text summary ≡ report_text script summary.totals.frames_taken summary.measures.items
text_by script summary came went given made =
    λ i. done_line ++ frames_line (codes "in") summary.totals.frames_taken (came i).channels (came i).format
    ++ frames_line (codes "out") (given i) (went i).channels (went i).format
    ++ multiplies_line (made i) ++ flat_map measure_line summary.measures.items

-- ---- what a command comes to

-- a length that is not legal was chosen for the script that was read
length_stops : (c : Call) {command : Option Command} → command_of c.words ≡ command → HasBlocks command →
    (script : Script) → ReadsAs c.source c.read script → (block divisor : ℕ) →
    StopsAtLength block divisor (named_by command) script → RefusesLength block divisor c
length_stops c is blocks script loaded block divisor length =
    let illegal = subst (λ n. IsFalse (is_legal_for script n)) (sym length.block_is) length.illegal in
    let block_is = length.block_is ∙ sym (block_of c.words is script) in
    OfText (subst HasBlocks (sym is) blocks) (record {
      text = loaded.text;
      read = loaded.read;
      holds = (script, loaded.holds, illegal, block_is, length.divisor_is);
    })

module _ (words : List (List ℕ)) (source read port later : SourceState) (sink after : SinkState) (other : SourceState)
    (before counts : Counts) (script : Script) (loaded : ReadsAs source read script) where
  abbrev called : Call
  called = call words source read port later sink after other other before counts

  -- the words are a run or a gen, and its stream was begun
  module _ (command : Command) (is : command_of words ≡ Some command) (stream : IsStream words) (now : SourceState)
      (reading : IsReading (Some command) port later now) where
    streams : (Did : ℕ → SourceState → SourceState → Type 0) →
        IsTrue (is_legal_for script (chosen (named_by (Some command)) script)) →
        Did (chosen (named_by (Some command)) script) (read_from (Some command) script.input port) now →
        Streams script Did called
    streams Did legal did =
        record {
          stream = stream;
          read = loaded;
          legal = subst (λ command. IsTrue (is_legal_for script (chosen (named_by command) script))) (sym is) legal;
          now = now;
          reading = subst (λ command. IsReading command port later now) (sym is) reading;
          did = subst (λ command. Did (chosen (named_by command) script) (read_from command script.input port) now)
              (sym is) did;
          other_same = refl;
        }

    -- whether the biquads are banks, by the command and by its words
    flag : banked_by (Some command) ≡ is_banked words
    flag = ap banked_by (sym is)

    went : (summary : Summary) → Ran (named_by (Some command)) (banked_by (Some command)) script summary
        (read_from (Some command) script.input port) now sink after before counts → Made (summary_text summary) called
    went summary ran =
        record {
          ending = Went script summary.totals.frames_taken summary.measures.items;
          happened = streams
              (λ block input now. Done (is_banked words) script block summary.totals.frames_taken input now sink after
              before counts summary.measures.items)
              ran.legal (rw flag at ran.done);
          whole = tt;
          text_is = ran.text;
        }

    module _ (left : (now ≡ read_from (Some command) script.input port) → later ≡ port) where
      left_alone : NotBegun (read_from (Some command) script.input port) now sink after before counts → Untouched called
      left_alone not_begun = record {
        input_same = left not_begun.input_same;
        output_same =
            not_begun.output_same;
        other_same = refl;
        counts_same = not_begun.counts_same;
      }

      stops : (fault : Fault) → FailsToRun fault (named_by (Some command)) (banked_by (Some command)) script
          (read_from (Some command) script.input port) now sink after before counts → Happened (Stopped fault) called
      stops (BlockLength block divisor) (length, untouched) = (
        length_stops called is (subst HasBlocks is (stream_blocks words stream)) script loaded block divisor length,
        left_alone untouched,
      )
      stops Memory untouched = (text_source (command_of words) (stream_text words stream), left_alone untouched)
      stops (Stream fault) stop = (
        script,
        streams (λ block input now. StreamStopped (is_banked words) script block fault input now sink after before
            counts) stop.legal (rw flag at stop.stopped),
      )
      stops fault none = absurd none

  -- a run
  module _ (named : Option ℕ) (banked : Bool) (is : command_of words ≡ Some (Run named banked)) where
    pub run_went : (summary : Summary) → Ran named banked script summary port later sink after before counts →
        Made (summary_text summary) called
    run_went summary ran = went (Run named banked) is (inl (named, banked, is)) later refl summary ran

    pub run_stops : (fault : Fault) → FailsToRun fault named banked script port later sink after before counts →
        Happened (Stopped fault) called
    run_stops fault fails = stops (Run named banked) is (inl (named, banked, is)) later refl (λ same. same) fault fails

-- a gen leaves the port of the input alone
module _ (words : List (List ℕ)) (source read port : SourceState) (sink after : SinkState) (other : SourceState)
    (before counts : Counts) (script : Script) (loaded : ReadsAs source read script) (seed frames : ℕ)
    (is : command_of words ≡ Some (Gen seed frames)) where
  pub gen_went : (summary : Summary) → RanGenerated seed frames script summary sink after before counts →
      Made (summary_text summary) (call words source read port port sink after other other before counts)
  gen_went summary made =
      went words source read port port sink after other before counts script loaded (Gen seed frames) is
      (inr (seed, frames, is)) made.now (refl, made.clean) summary made.ran

  pub gen_stops : (fault : Fault) → FailsToGenerate fault seed frames script sink after before counts →
      Happened (Stopped fault) (call words source read port port sink after other other before counts)
  gen_stops fault made =
      stops words source read port port sink after other before counts script loaded (Gen seed frames) is
      (inr (seed, frames, is)) made.now (refl, made.clean) (λ _. refl) fault made.fails

-- a run that was stopped has done this, and its state is that of the first frames
pub first_by : (script : Script) (at : ℕ) (state : List ℕ) (old new : ResumeState) (input now : SourceState)
    (sink after : SinkState) (before counts : Counts)
    → IsNewResume script (chosen None script) at old → state ≡ new.state →
    IsTrue (is_legal_for script (chosen None script)) → FirstDone old.session.script old.frames new.session input now
    sink after before counts → Saves old new
    → RanFirst at script state input now sink after before counts
first_by script at state old new input now sink after before counts made state_is legal done saves =
    let script_is = made.script_is in
    let at_is = made.frames_is in
    let own : FirstDone script at new.session input now sink after before counts =
    subst (λ n. FirstDone script n new.session input now sink after before counts) at_is
    (subst (λ (s : Script). FirstDone s old.frames new.session input now sink after before counts) script_is done) in
    let x = input_signal script own.given in
    record {
      legal = legal;
      short = made.short;
      session = new.session;
      block_is = saves.script.block ∙ made.block_is;
      plain = saves.script.banked ∙ made.plain;
      done = own;
      state_is =
          state_is ∙ saves.state x own.stands (sym own.frame_count ∙ sym at_is) ∙
          (λ i. state_of (script_is i) (at_is i) (kept (script_is i) x));
    }

-- and one that went on has done that
pub rest_by : (script same : Script) (start : SessionState) (at same_at frames : ℕ) (input now : SourceState)
    (sink after : SinkState) (before counts : Counts) (found measured : List Measure) → same ≡ script → same_at ≡ at →
    found ≡ measured → RestDone same start same_at frames input now sink after before counts measured →
    RestDone script start at frames input now sink after before counts found
rest_by script same start at same_at frames input now sink after before counts found measured s a f done =
    subst (λ (t : Script). RestDone t start at frames input now sink after before counts found) s
    (subst (λ n. RestDone same start n frames input now sink after before counts found) a
    (subst (λ m. RestDone same start same_at frames input now sink after before counts m) (sym f) done))

-- the session of a loaded state, in blocks of the length that its script has
pub continues_by : (saved : SavedState) (block : ℕ) (r : ResumeState) → IsResumed saved block r →
    block ≡ chosen None saved.script → IsTrue (is_legal_for saved.script (chosen None saved.script)) →
    Continues saved r.session
continues_by saved block r resumed is legal = record {
  legal = legal;
  script_is = resumed.script_is;
  block_is = resumed.block_is ∙ is;
  plain = resumed.plain;
  stands = resumed.stands;
}

-- and a stream of it that stopped
pub stopped_by : (saved : SavedState) (r : ResumeState) (fault : PartFault) (input now : SourceState)
    (sink after : SinkState) (before counts : Counts) → Continues saved r.session → r.frames ≡ saved.frames
    → RestStopped r.session.script r.session.block r.session r.frames fault input now sink after before counts
    → StopsInRest fault saved input now sink after before counts
stopped_by saved r fault input now sink after before counts continues frames stopped = record {
  start = r.session;
  continues = continues;
  stopped = subst (λ (s : Script). RestStopped s (chosen None saved.script) r.session saved.frames fault input now sink
      after before counts) continues.script_is
      (subst (λ n. RestStopped r.session.script n r.session saved.frames fault input now sink after before counts)
      continues.block_is
      (subst (λ n. RestStopped r.session.script r.session.block r.session n fault input now sink after before counts)
      frames stopped));
}

module _ (words : List (List ℕ)) (source read port later : SourceState) (sink after : SinkState) (other : SourceState)
    (before counts : Counts) where
  abbrev asked : Call
  asked = call words source read port later sink after other other before counts

  alone : NotBegun port later sink after before counts → Untouched asked
  alone not_begun = record {
    input_same = not_begun.input_same;
    output_same = not_begun.output_same;
    other_same =
        refl;
    counts_same = not_begun.counts_same;
  }

  -- a run that is to be stopped
  module _ (script : Script) (loaded : ReadsAs source read script) (at : ℕ) (is : command_of words ≡ Some (Stop at))
    where
      pub first_ran : (state : List ℕ) → RanFirst at script state port later sink after before counts → Made state asked
      first_ran state ran = record {
        ending = Saved script at (input_signal script ran.done.given);
        happened = record {
          asked = is;
          read = loaded;
          legal = ran.legal;
          short = ran.short;
          did = (ran.session, ran.block_is, ran.plain, ran.done, refl);
          other_same = refl;
        };
        whole = tt;
        text_is = ran.state_is;
      }

      pub first_stops : (fault : Fault) → FailsToStop fault at script port later sink after before counts →
          Happened (Stopped fault) asked
      first_stops (BlockLength block divisor) (length, untouched) =
          (length_stops asked is tt script loaded block divisor length, alone untouched)
      first_stops (State kind offset) (text, untouched) = (
        OfScript at is (record {
          text = loaded.text;
          read = loaded.read;
          holds =
              (script, loaded.holds, text.legal, text.long, text.kind_is, text.offset_is);
        }),
        alone untouched,
      )
      first_stops Memory untouched = (subst HasSource (sym is) tt, alone untouched)
      first_stops (Part fault) stop =
          InFirst script at (record {
            asked = is;
            read = loaded;
            legal = stop.legal;
            short = stop.short;
            did =
                stop.stopped;
            other_same = refl;
          })
      first_stops fault none = absurd none

  -- a run that goes on
  module _ (saved : SavedState) (loaded : LoadsState source read saved) (go : command_of words ≡ Some Go) where
    goes_on : (Did : ℕ → SessionState → ℕ → Type 0) (start : SessionState) → Continues saved start →
        Did (chosen None saved.script) start saved.frames → GoesOn saved.script Did asked
    goes_on Did start continues did = record {
      asked = go;
      at = saved.frames;
      numbers = saved.numbers;
      read = loaded;
      legal = continues.legal;
      start = start;
      script_is = continues.script_is;
      block_is = continues.block_is;
      plain = continues.plain;
      stands = continues.stands;
      did = did;
      other_same = refl;
    }

    pub rest_ran : (summary : Summary) → RanRest saved summary port later sink after before counts →
        Made (summary_text summary) asked
    rest_ran summary ran = record {
      ending = Resumed saved.script summary.totals.frames_taken summary.measures.items;
      happened = goes_on _ ran.start ran.continues ran.done;
      whole = tt;
      text_is = ran.text;
    }

    pub rest_stops : (fault : Fault) → FailsToGoOn fault saved port later sink after before counts →
        Happened (Stopped fault) asked
    rest_stops (BlockLength block divisor) (length, untouched) =
        let illegal : IsFalse (is_legal_for saved.script block) =
        subst (λ n. IsFalse (is_legal_for saved.script n)) (sym length.block_is) length.illegal in (
          OfState go (record {
            text = loaded.text;
            read = loaded.read;
            holds =
                (saved.script, saved.frames, saved.numbers, loaded.holds, illegal, length.block_is, length.divisor_is);
          }),
          alone untouched,
        )
    rest_stops Memory untouched = (subst HasSource (sym go) tt, alone untouched)
    rest_stops (Part fault) stop = InRest saved.script (goes_on _ stop.start stop.continues stop.stopped)
    rest_stops fault none = absurd none

-- a check leaves the output alone
module _ (words : List (List ℕ)) (source read port later : SourceState) (sink : SinkState) (other seen : SourceState)
    (before counts : Counts) (script : Script) (loaded : ReadsAs source read script)
    (is : command_of words ≡ Some Check) where
  abbrev checking : Call
  checking = call words source read port later sink sink other seen before counts

  pub check_went : (size : ℕ) → Compared script size port later other seen before counts →
      Made (same_text size) checking
  check_went size compared = record {
    ending = Checked script size;
    happened = record { asked = is; read = loaded; legal = compared.legal; did = compared.done; output_same = refl };
    whole = tt;
    text_is = refl;
  }

  pub check_stops : (fault : Fault) → FailsToCompare fault script port later other seen before counts →
      Happened (Stopped fault) checking
  check_stops (BlockLength block divisor) (length, alone) = (
    length_stops checking is tt script loaded block divisor length,
    record {
      input_same = alone.input_same;
      output_same = refl;
      other_same = alone.other_same;
      counts_same = alone.counts_same;
    },
  )
  check_stops (Comparison fault) stop = (
    script,
    record
        { asked = is; read = loaded; legal = stop.legal; did = stop.stopped; output_same = refl },
  )
  check_stops fault none = absurd none
