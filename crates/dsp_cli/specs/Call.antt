-- What the top call was given and what it left, and how it ended: one fact, from which all other clauses of `run`
-- follow.
use Rattle.std.specs.Prelude.{◌≡◌, ◌≤◌, ◌<◌, ◌++◌, ℕ, ℤ, List, length, Option, Some, None, IfSome, IsTrue, IsFalse}
use Rattle.std.specs.Prelude.{false}
use Rattle.dsp_ports.specs.Ports.{SourceState, SinkState, one_more}
use Rattle.dsp_defs.specs.Canon.{canon}
use Rattle.dsp_defs.specs.Counts.{Counts}
use Rattle.dsp_defs.specs.Grammar.{Reads}
use Rattle.dsp_defs.specs.Block.{Frame}
use Rattle.dsp_defs.specs.KeptOfScript.{kept}
use Rattle.dsp_defs.specs.Output.{input_header, input_signal, live_bytes, output, output_pad, whole_bytes}
use Rattle.dsp_defs.specs.StateBytes.{IsState, state_of}
use Rattle.dsp_defs.specs.StateFields.{HasStateFault}
use Rattle.dsp_defs.specs.declared.limits.TheConstants.{MAX_SCRIPT}
use Rattle.dsp_defs.specs.declared.state_kind.StateKind.{StateKind}
use Rattle.dsp_defs.specs.declared.state_kind.StateKind.TheVariants.{LongText}
use Rattle.dsp_defs.specs.Reading.{first_fault}
use Rattle.dsp_command.specs.Report.{report_text, converted_text, same_text}
use Rattle.dsp_defs.specs.Shape.{unit}
use Rattle.dsp_command.specs.Words.{command_of}
use Rattle.dsp_defs.specs.declared.au.Direction.{Direction}
use Rattle.dsp_command.specs.declared.command.Command.{Command}
use Rattle.dsp_command.specs.declared.command.Command.TheVariants.{Gen, Print, Stop, Go, Convert, Check}
use Rattle.dsp_defs.specs.declared.measure.Measure.{Measure}
use Rattle.dsp_defs.specs.declared.script.Script.{Script}
use Rattle.dsp_session.specs.Resuming.{FirstDone, FirstStopped, RestDone, RestStopped, first_output, later_frames}
use Rattle.dsp_session.specs.Session.{StandsFor}
use Rattle.dsp_session.specs.SessionState.{SessionState}
use Rattle.dsp_session.specs.Stream.{Done, Stopped as StreamStopped}
use Rattle.dsp_session.specs.declared.fault.PartFault.{PartFault}
use Rattle.dsp_cli.specs.Fault.{status_of, fault_line}
use Rattle.dsp_cli.specs.Run.{HasSource, HasText, HasBlocks, IsStream, IsPrint, IsReading, IfWhole, Tells}
use Rattle.dsp_cli.specs.Run.{ReportsText, Wrote, read_from}
use Rattle.dsp_cli.specs.Script.{ReadsText, ReadsBytes, IfScript, IfState, chosen, chosen_block, is_banked}
use Rattle.dsp_cli.specs.Script.{is_legal_for}
use Rattle.dsp_cli.specs.declared.fault.Fault.{Fault}
use Rattle.dsp_cli.specs.declared.fault.Fault.TheVariants.{Usage, ScriptRead, Script as BadText, BlockLength, Memory}
use Rattle.dsp_cli.specs.declared.fault.Fault.TheVariants.{Stream, State, Part, Conversion, Comparison}
use Rattle.dsp_defs.specs.Au.{target}
use Rattle.dsp_au.specs.Convert.{Done as ConvertDone, Stopped as ConvertStopped}
use Rattle.dsp_au.specs.declared.conversion.Converted.{Converted}
use Rattle.dsp_check.specs.Check.{Done as CheckDone, Stopped as CheckStopped}

-- ---- what was given and what was left

-- the words; and each port but that of the report, and the counts, before and after
pub record Call : Type 0 where
  pub words : List (List ℕ)
  -- the source of the script
  pub source : SourceState
  pub read : SourceState
  -- the input
  pub port : SourceState
  pub later : SourceState
  -- the output
  pub sink : SinkState
  pub after : SinkState
  -- the other file that is read
  pub other : SourceState
  pub seen : SourceState
  pub before : Counts
  pub counts : Counts

-- a call from its parts
abbrev pub call : List (List ℕ) → SourceState → SourceState → SourceState → SourceState → SinkState → SinkState →
    SourceState → SourceState → Counts → Counts → Call
call words source read port later sink after other seen before counts = record {
  words = words;
  source = source;
  read = read;
  port = port;
  later = later;
  sink = sink;
  after = after;
  other = other;
  seen = seen;
  before = before;
  counts = counts;
}

-- neither the input, the output nor the other file was called, and nothing was counted
pub record Untouched (c : Call) : Type 0 where
  pub input_same : c.later ≡ c.port
  pub output_same : c.after ≡ c.sink
  pub other_same : c.seen ≡ c.other
  pub counts_same : c.counts ≡ c.before

-- neither the source of the script nor the other file was called, and nothing was counted
pub record SparesScript (c : Call) : Type 0 where
  pub script_same : c.read ≡ c.source
  pub other_same : c.seen ≡ c.other
  pub counts_same : c.counts ≡ c.before

-- what a command leaves alone, however it ends
abbrev pub Spares : Option Command → Call → Type 0
Spares (Some (Gen seed frames)) c = (c.later ≡ c.port) × (c.seen ≡ c.other)
Spares (Some (Convert direction)) c = SparesScript c
Spares (Some Check) c = c.after ≡ c.sink
Spares command c = c.seen ≡ c.other

-- for each signal whose kept numbers a state has, what was written is what its whole signal has beyond its live
-- values: the
-- signal goes on with the frames of the input behind as many as the state has taken
abbrev pub GoesOnRight : SourceState → List ℕ → SinkState → SinkState → Type 0
GoesOnRight source bytes sink after = IfState source.left (λ script at numbers.
    (x : List Frame) → length x ≡ at → numbers ≡ kept script x → (written : List ℕ) × Wrote written sink after
    × (live_bytes script x ++ written ≡ whole_bytes script (x ++ later_frames script at bytes) ++ output_pad script
    (input_header script bytes)))

-- what is so once a command is done, where the ports tell their bytes: exactly the output of the script was written,
-- for all
-- the input, or for a part of it, or the file in the other form; or the other file is exactly the output of the script
abbrev pub HasDone : Option Command → Call → Type 0
HasDone None c = Unit {0}
HasDone (Some Print) c = Unit {0}
HasDone (Some (Stop at)) c = IfScript c.source.left (λ s. IfSome c.port.left
    (λ bytes. Wrote (first_output s at bytes) c.sink c.after))
HasDone (Some Go) c = IfSome c.port.left (λ bytes. GoesOnRight c.source bytes c.sink c.after)
HasDone (Some (Convert direction)) c = IfSome c.port.left (λ bytes. Wrote (target direction bytes) c.sink c.after)
HasDone (Some Check) c = IfScript c.source.left (λ s. IfSome c.port.left
    (λ bytes. IfSome c.other.left (λ file. file ≡ output s bytes)))
HasDone command c = IfWhole command c.source.left c.port (λ s bytes. Wrote (output s bytes) c.sink c.after)

-- ---- how it ended

-- a script went over a whole input of so many frames, with these measures; the text of a script was made; a script
-- was stopped
-- behind so many frames, which are these; it went on to the end of so many, with these measures; a file was written
-- in the other
-- form; the other file is the output of a script, of so many bytes; or a fault stopped it
pub data Ending : Type 0 where
  Went : Script → ℕ → List Measure → Ending
  Printed : Script → Ending
  Saved : Script → ℕ → List Frame → Ending
  Resumed : Script → ℕ → List Measure → Ending
  Turned : Converted → Ending
  Checked : Script → ℕ → Ending
  Stopped : Fault → Ending

-- the words are a run or a gen of this script, and in blocks of the chosen length a stream did this with its input; the
-- other file was left alone
pub record Streams (script : Script) (Did : ℕ → SourceState → SourceState → Type 0) (c : Call) : Type 0 where
  pub stream : IsStream c.words
  pub read : ReadsText c.source c.read (λ text. Reads text script)
  pub legal : IsTrue (is_legal_for script (chosen_block c.words script))
  pub now : SourceState
  pub reading : IsReading (command_of c.words) c.port c.later now
  pub did : Did (chosen_block c.words script) (read_from (command_of c.words) script.input c.port) now
  pub other_same : c.seen ≡ c.other

-- the words ask to stop this script behind so many frames, and in blocks of the chosen length this was done; the
-- other file was
-- left alone
pub record StopsAt (script : Script) (at : ℕ) (Did : ℕ → Type 0) (c : Call) : Type 0 where
  pub asked : command_of c.words ≡ Some (Stop at)
  pub read : ReadsText c.source c.read (λ text. Reads text script)
  pub legal : IsTrue (is_legal_for script (chosen None script))
  pub short : length (canon script) ≤ MAX_SCRIPT
  pub did : Did (chosen None script)
  pub other_same : c.seen ≡ c.other

-- the words ask to go on, from the state of this script behind so many frames, and in blocks of the chosen length
-- this was done by
-- a session that stood for each signal with its numbers; the other file was left alone
pub record GoesOn (script : Script) (Did : ℕ → SessionState → ℕ → Type 0) (c : Call) : Type 0 where
  pub asked : command_of c.words ≡ Some Go
  pub at : ℕ
  pub numbers : List ℤ
  pub read : ReadsBytes c.source c.read (λ bytes. IsState bytes script at numbers)
  pub legal : IsTrue (is_legal_for script (chosen None script))
  pub start : SessionState
  pub script_is : start.script ≡ script
  pub block_is : start.block ≡ chosen None script
  pub plain : start.banked ≡ false
  pub stands : (x : List Frame) → length x ≡ at → numbers ≡ kept script x → StandsFor start x
  pub did : Did (chosen None script) start at
  pub other_same : c.seen ≡ c.other

-- the words are a conversion, and this was done with its input and output; nothing else was called
pub record Converts (Did : Direction → Type 0) (c : Call) : Type 0 where
  pub direction : Direction
  pub asked : command_of c.words ≡ Some (Convert direction)
  pub did : Did direction
  pub spared : SparesScript c

-- the words are a check by this script, and this was done with its input and the other file; the output was left alone
pub record Checks (script : Script) (Did : Type 0) (c : Call) : Type 0 where
  pub asked : command_of c.words ≡ Some Check
  pub read : ReadsText c.source c.read (λ text. Reads text script)
  pub legal : IsTrue (is_legal_for script (chosen None script))
  pub did : Did
  pub output_same : c.after ≡ c.sink

-- the chosen block length isn't legal: of a script that was read, or of the script of a state
pub data RefusesLength (block divisor : ℕ) (c : Call) : Type 0 where
  OfText : HasBlocks (command_of c.words) → ReadsText c.source c.read (λ text. (script : Script) × Reads text script
      × IsFalse (is_legal_for script block) × (block ≡ chosen_block c.words script) ×
      (divisor ≡ unit script.input.channels script.blocks))
      → RefusesLength block divisor c
  OfState : command_of c.words ≡ Some Go → ReadsBytes c.source c.read
      (λ bytes. (script : Script) × (at : ℕ) × (numbers : List ℤ)
      × IsState bytes script at numbers × IsFalse (is_legal_for script block) × (block ≡ chosen None script) ×
      (divisor ≡ unit script.input.channels script.blocks))
      → RefusesLength block divisor c

-- the bytes are no state; or the text of a script that is to be stopped is too long for one
pub data RefusesState (kind : StateKind) (offset : ℕ) (c : Call) : Type 0 where
  OfBytes : command_of c.words ≡ Some Go → ReadsBytes c.source c.read (λ bytes. HasStateFault kind offset bytes) →
      RefusesState kind offset c
  OfScript : (at : ℕ) → command_of c.words ≡ Some (Stop at) →
      ReadsText c.source c.read (λ text. (script : Script) × Reads text script
      × IsTrue (is_legal_for script (chosen None script)) × (MAX_SCRIPT < length (canon script)) ×
      (kind ≡ LongText (length (canon script))) × (offset ≡ 0))
      → RefusesState kind offset c

-- why no stream was begun
abbrev pub Refuses : Fault → Call → Type 0
Refuses Usage c = (command_of c.words ≡ None) × (c.read ≡ c.source)
Refuses ScriptRead c = HasSource (command_of c.words) × (c.read.faults ≡ one_more c.source.faults)
Refuses (BadText fault) c = HasText (command_of c.words) ×
    ReadsText c.source c.read (λ text. first_fault text ≡ Some fault)
Refuses (BlockLength block divisor) c = RefusesLength block divisor c
Refuses (State kind offset) c = RefusesState kind offset c
Refuses Memory c = HasSource (command_of c.words)
Refuses fault c = ⊥

-- the stream over the first frames stopped before their end, or that over the rest
pub data StopsInPart (fault : PartFault) (c : Call) : Type 0 where
  InFirst : (script : Script) (at : ℕ)
      → StopsAt script at (λ block. FirstStopped false script block at fault c.port c.later c.sink c.after c.before
      c.counts) c → StopsInPart fault c
  InRest : (script : Script)
      → GoesOn script (λ block start at. RestStopped script block start at fault c.port c.later c.sink c.after
      c.before c.counts) c → StopsInPart fault c

-- what was done
abbrev pub Happened : Ending → Call → Type 0
Happened (Went script frames found) c =
    Streams script (λ block input now. Done (is_banked c.words) script block frames input now c.sink c.after c.before
    c.counts found) c
Happened (Printed script) c =
    IsPrint c.words × ReadsText c.source c.read (λ text. Reads text script) × Untouched c
Happened (Saved script at x) c = StopsAt script at (λ block.
    (session : SessionState) × (session.block ≡ block) × (session.banked ≡ false) ×
    (done : FirstDone script at session c.port c.later c.sink c.after c.before c.counts) ×
    (x ≡ input_signal script done.given)) c
Happened (Resumed script frames found) c =
    GoesOn script (λ block start at. RestDone script start at frames c.port c.later c.sink c.after c.before c.counts
    found) c
Happened (Turned totals) c = Converts (λ direction. ConvertDone direction totals c.port c.later c.sink c.after) c
Happened (Checked script size) c = Checks script (CheckDone script size c.port c.later c.other c.seen c.before
    c.counts) c
Happened (Stopped (Conversion fault)) c = Converts (λ direction. ConvertStopped direction fault c.port c.later c.sink
    c.after) c
Happened (Stopped (Comparison fault)) c =
    (script : Script) × Checks script (CheckStopped script fault c.port c.later c.other c.seen c.before c.counts) c
Happened (Stopped (Stream fault)) c =
    (script : Script) × Streams script (λ block input now. StreamStopped (is_banked c.words) script block fault input
    now c.sink c.after c.before c.counts) c
Happened (Stopped (Part fault)) c = StopsInPart fault c
Happened (Stopped fault) c = Refuses fault c × Untouched c

-- what is said of it
abbrev pub text_of : Ending → List ℕ
text_of (Went script frames found) = report_text script frames found
text_of (Printed script) = canon script
text_of (Saved script at x) = state_of script at (kept script x)
text_of (Resumed script frames found) = report_text script frames found
text_of (Turned totals) = converted_text totals.frames totals.channels totals.bits
text_of (Checked script size) = same_text size
text_of (Stopped fault) = fault_line fault

-- that was reported; a fault has its status, also where the report has failed
abbrev pub Reported : Ending → ℕ → SinkState → SinkState → Type 0
Reported (Stopped fault) status report told = (status ≡ status_of fault) × Tells (fault_line fault) report told
Reported ending status report told = ReportsText (text_of ending) status report told

-- it ended in one of these ways, and its status and its report are of just that
pub record Ended (c : Call) (status : ℕ) (report told : SinkState) : Type 0 where
  pub ending : Ending
  pub happened : Happened ending c
  pub reported : Reported ending status report told
