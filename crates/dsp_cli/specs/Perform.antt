-- What the parts of the top call do: a script is loaded, goes over an input, and is reported.
use Rattle.std.specs.Prelude.{◌≡◌, ◌≤◌, ◌<◌, ℕ, Bool, false, List, length, Option, None, Some, IsTrue, IsFalse}
use Rattle.std.specs.Prelude.{Result, Ok, Err}
use Rattle.dsp_ports.specs.Ports.{SourceState, SinkState, one_more}
use Rattle.dsp_defs.specs.Counts.{Counts}
use Rattle.dsp_defs.specs.Grammar.{Reads}
use Rattle.dsp_defs.specs.Reading.{first_fault}
use Rattle.dsp_command.specs.Report.{report_text}
use Rattle.dsp_defs.specs.Shape.{unit}
use Rattle.dsp_defs.specs.declared.script.Script.{Script}
use Rattle.dsp_defs.specs.Block.{Frame}
use Rattle.dsp_defs.specs.Canon.{canon}
use Rattle.dsp_defs.specs.KeptOfScript.{kept}
use Rattle.dsp_defs.specs.Output.{input_signal}
use Rattle.dsp_defs.specs.StateBytes.{IsState, state_of}
use Rattle.dsp_defs.specs.StateFields.{HasStateFault}
use Rattle.dsp_defs.specs.declared.limits.TheConstants.{MAX_SCRIPT}
use Rattle.dsp_defs.specs.declared.state_kind.StateKind.{StateKind}
use Rattle.dsp_defs.specs.declared.state_kind.StateKind.TheVariants.{LongText}
use Rattle.dsp_state.specs.SavedState.{SavedState}
use Rattle.dsp_session.specs.Resuming.{FirstDone, FirstStopped, RestDone, RestStopped}
use Rattle.dsp_session.specs.Session.{StandsFor}
use Rattle.dsp_session.specs.SessionState.{SessionState}
use Rattle.dsp_session.specs.declared.fault.PartFault.{PartFault}
use Rattle.dsp_session.specs.Stream.{Stopped as StreamStopped, Done}
use Rattle.dsp_session.specs.declared.fault.StreamFault.{StreamFault}
use Rattle.dsp_check.specs.Check.{Done as CheckDone, Stopped as CheckStopped}
use Rattle.dsp_check.specs.declared.fault.CheckFault.{CheckFault}
use Rattle.dsp_cli.specs.Call.{Call, Ending, Stopped, Happened, text_of}
use Rattle.dsp_cli.specs.Fault.{status_of, fault_line, summary_text}
use Rattle.dsp_cli.specs.Script.{ReadsText, ReadsBytes, chosen, is_legal_for}
use Rattle.dsp_cli.specs.Run.{generated_source, Tells, ReportsText}
use Rattle.dsp_cli.specs.declared.fault.Fault.{Fault}
use Rattle.dsp_cli.specs.declared.fault.Fault.TheVariants.{ScriptRead, Script as BadText, BlockLength, Memory, Stream}
use Rattle.dsp_cli.specs.declared.fault.Fault.TheVariants.{State, Part, Comparison}
use Rattle.dsp_cli.specs.declared.report.Summary.{Summary}
use Rattle.dsp_cli.specs.declared.top.Outcome.{Outcome}
use Rattle.dsp_cli.specs.declared.top.Outcome.TheVariants as outcome

-- ---- the script

-- the script's bytes were read, and they are this script
abbrev pub ReadsAs : SourceState → SourceState → Script → Type 0
ReadsAs source now script = ReadsText source now (λ text. Reads text script)

-- the script's source failed, or its text is no script
abbrev pub FailsToLoad : Fault → SourceState → SourceState → Type 0
FailsToLoad ScriptRead source now = now.faults ≡ one_more source.faults
FailsToLoad (BadText fault) source now = ReadsText source now (λ text. first_fault text ≡ Some fault)
FailsToLoad Memory source now = Unit {0}
FailsToLoad fault source now = ⊥

-- ---- a run of it

-- neither the input nor the output was called, and nothing was counted
pub record NotBegun (input now : SourceState) (output after : SinkState) (before counts : Counts) : Type 0 where
  pub input_same : now ≡ input
  pub output_same : after ≡ output
  pub counts_same : counts ≡ before

-- the run went over the whole input, and its summary is the report of just that
pub record Ran (named : Option ℕ) (banked : Bool) (script : Script) (summary : Summary) (input now : SourceState)
    (output after : SinkState) (before counts : Counts) : Type 0 where
  pub legal : IsTrue (is_legal_for script (chosen named script))
  pub done : Done banked script (chosen named script) summary.totals.frames_taken input now output after before counts
      summary.measures.items
  pub text : summary_text summary ≡ report_text script summary.totals.frames_taken summary.measures.items

-- the chosen block length isn't legal
pub record StopsAtLength (block divisor : ℕ) (named : Option ℕ) (script : Script) : Type 0 where
  pub illegal : IsFalse (is_legal_for script (chosen named script))
  pub block_is : block ≡ chosen named script
  pub divisor_is : divisor ≡ unit script.input.channels script.blocks

-- the stream stopped
pub record StopsInStream (fault : StreamFault) (named : Option ℕ) (banked : Bool) (script : Script)
    (input now : SourceState) (output after : SinkState) (before counts : Counts) : Type 0 where
  pub legal : IsTrue (is_legal_for script (chosen named script))
  pub stopped : StreamStopped banked script (chosen named script) fault input now output after before counts

-- why a script does not run, and what was called by then
abbrev pub FailsToRun : Fault → Option ℕ → Bool → Script → SourceState → SourceState → SinkState → SinkState →
    Counts → Counts → Type 0
FailsToRun (BlockLength block divisor) named banked script input now output after before counts =
    StopsAtLength block divisor named script × NotBegun input now output after before counts
FailsToRun Memory named banked script input now output after before counts =
    NotBegun input now output after before counts
FailsToRun (Stream fault) named banked script input now output after before counts =
    StopsInStream fault named banked script input now output after before counts
FailsToRun fault named banked script input now output after before counts = ⊥

-- the run went over a whole generated input
pub record RanGenerated (seed frames : ℕ) (script : Script) (summary : Summary) (output after : SinkState)
    (before counts : Counts) : Type 0 where
  pub now : SourceState
  pub clean : now.faults ≡ 0
  pub ran : Ran None false script summary (generated_source script.input seed frames) now output after before counts

-- a run over a generated input stops
pub record FailsToGenerate (fault : Fault) (seed frames : ℕ) (script : Script) (output after : SinkState)
    (before counts : Counts) : Type 0 where
  pub now : SourceState
  pub clean : now.faults ≡ 0
  pub fails : FailsToRun fault None false script (generated_source script.input seed frames) now output after before
      counts

-- ---- a part of it

-- the state's bytes were read, and they are the state of this script, so many frames and these numbers
abbrev pub LoadsState : SourceState → SourceState → SavedState → Type 0
LoadsState source now saved = ReadsBytes source now (λ bytes. IsState bytes saved.script saved.frames saved.numbers)

-- the state's source failed, or its bytes are no state
abbrev pub FailsToLoadState : Fault → SourceState → SourceState → Type 0
FailsToLoadState ScriptRead source now = now.faults ≡ one_more source.faults
FailsToLoadState (State kind offset) source now = ReadsBytes source now (λ bytes. HasStateFault kind offset bytes)
FailsToLoadState Memory source now = Unit {0}
FailsToLoadState fault source now = ⊥

-- the script was stopped behind so many frames, and the bytes are the state of just these
pub record RanFirst (at : ℕ) (script : Script) (state : List ℕ) (input now : SourceState) (output after : SinkState)
    (before counts : Counts) : Type 0 where
  pub legal : IsTrue (is_legal_for script (chosen None script))
  pub short : length (canon script) ≤ MAX_SCRIPT
  pub session : SessionState
  pub block_is : session.block ≡ chosen None script
  pub plain : session.banked ≡ false
  pub done : FirstDone script at session input now output after before counts
  pub state_is : state ≡ state_of script at (kept script (input_signal script done.given))

-- its canonical text is longer than that of a state may be
pub record StopsAtText (kind : StateKind) (offset : ℕ) (script : Script) : Type 0 where
  pub legal : IsTrue (is_legal_for script (chosen None script))
  pub long : MAX_SCRIPT < length (canon script)
  pub kind_is : kind ≡ LongText (length (canon script))
  pub offset_is : offset ≡ 0

-- the stream over the first frames stopped
pub record StopsInFirst (fault : PartFault) (at : ℕ) (script : Script) (input now : SourceState)
    (output after : SinkState) (before counts : Counts) : Type 0 where
  pub legal : IsTrue (is_legal_for script (chosen None script))
  pub short : length (canon script) ≤ MAX_SCRIPT
  pub stopped : FirstStopped false script (chosen None script) at fault input now output after before counts

-- why a script is not stopped behind so many frames, and what was called by then
abbrev pub FailsToStop : Fault → ℕ → Script → SourceState → SourceState → SinkState → SinkState → Counts → Counts →
    Type 0
FailsToStop (BlockLength block divisor) at script input now output after before counts =
    StopsAtLength block divisor None script × NotBegun input now output after before counts
FailsToStop (State kind offset) at script input now output after before counts = StopsAtText kind offset script ×
    NotBegun input now output after before counts
FailsToStop Memory at script input now output after before counts = NotBegun input now output after before counts
FailsToStop (Part fault) at script input now output after before counts =
    StopsInFirst fault at script input now output after before counts
FailsToStop fault at script input now output after before counts = ⊥

-- a session of the script of a state, that stands for each signal with its numbers
pub record Continues (saved : SavedState) (start : SessionState) : Type 0 where
  pub legal : IsTrue (is_legal_for saved.script (chosen None saved.script))
  pub script_is : start.script ≡ saved.script
  pub block_is : start.block ≡ chosen None saved.script
  pub plain : start.banked ≡ false
  pub stands : (x : List Frame) → length x ≡ saved.frames → saved.numbers ≡ kept saved.script x → StandsFor start x

-- the run went on to the end of the input, and its summary is the report of just that
pub record RanRest (saved : SavedState) (summary : Summary) (input now : SourceState) (output after : SinkState)
    (before counts : Counts) : Type 0 where
  pub start : SessionState
  pub continues : Continues saved start
  pub done : RestDone saved.script start saved.frames summary.totals.frames_taken input now output after before counts
      summary.measures.items
  pub text : summary_text summary ≡ report_text saved.script summary.totals.frames_taken summary.measures.items

-- the stream over the rest stopped
pub record StopsInRest (fault : PartFault) (saved : SavedState) (input now : SourceState) (output after : SinkState)
    (before counts : Counts) : Type 0 where
  pub start : SessionState
  pub continues : Continues saved start
  pub stopped : RestStopped saved.script (chosen None saved.script) start saved.frames fault input now output after
      before counts

-- why a run does not go on, and what was called by then
abbrev pub FailsToGoOn : Fault → SavedState → SourceState → SourceState → SinkState → SinkState → Counts → Counts →
    Type 0
FailsToGoOn (BlockLength block divisor) saved input now output after before counts =
    StopsAtLength block divisor None saved.script × NotBegun input now output after before counts
FailsToGoOn Memory saved input now output after before counts = NotBegun input now output after before counts
FailsToGoOn (Part fault) saved input now output after before counts =
    StopsInRest fault saved input now output after before counts
FailsToGoOn fault saved input now output after before counts = ⊥

-- ---- a check

-- the other file is the output of the script, of so many bytes
pub record Compared (script : Script) (size : ℕ) (input now other seen : SourceState) (before counts : Counts) : Type
    0 where
  pub legal : IsTrue (is_legal_for script (chosen None script))
  pub done : CheckDone script size input now other seen before counts

-- it was not found to be
pub record StopsComparing (fault : CheckFault) (script : Script) (input now other seen : SourceState)
    (before counts : Counts) : Type 0 where
  pub legal : IsTrue (is_legal_for script (chosen None script))
  pub stopped : CheckStopped script fault input now other seen before counts

-- neither the input nor the other file was called, and nothing was counted
pub record NotCompared (input now other seen : SourceState) (before counts : Counts) : Type 0 where
  pub input_same : now ≡ input
  pub other_same : seen ≡ other
  pub counts_same : counts ≡ before

-- why it was not, and what was called by then
abbrev pub FailsToCompare : Fault → Script → SourceState → SourceState → SourceState → SourceState → Counts → Counts →
    Type 0
FailsToCompare (BlockLength block divisor) script input now other seen before counts =
    StopsAtLength block divisor None script × NotCompared input now other seen before counts
FailsToCompare (Comparison fault) script input now other seen before counts =
    StopsComparing fault script input now other seen before counts
FailsToCompare fault script input now other seen before counts = ⊥

-- ---- what the words ask for

-- no fault stopped it
abbrev pub IsWhole : Ending → Type 0
IsWhole (Stopped fault) = ⊥
IsWhole ending = Unit {0}

-- it ended so, without a fault, and this is what is said of it
pub record Made (text : List ℕ) (c : Call) : Type 0 where
  pub ending : Ending
  pub happened : Happened ending c
  pub whole : IsWhole ending
  pub text_is : text ≡ text_of ending

-- what was done
abbrev pub Performed : Outcome → Call → Type 0
Performed (outcome.Ran summary) c = Made (summary_text summary) c
Performed (outcome.Printed text) c = Made text.items c
Performed (outcome.Noted text) c = Made text.items c

-- the status of an outcome, and what became of the report
abbrev pub HasStatus : Result Outcome Fault → ℕ → SinkState → SinkState → Type 0
HasStatus (Ok (outcome.Ran summary)) status old new = ReportsText (summary_text summary) status old new
HasStatus (Ok (outcome.Printed text)) status old new = ReportsText text.items status old new
HasStatus (Ok (outcome.Noted text)) status old new = ReportsText text.items status old new
HasStatus (Err fault) status old new = (status ≡ status_of fault) × Tells (fault_line fault) old new
