-- How the bytes that a stream over a part of an input took, and those that it wrote, stand to each other at each of
-- its ends. A part is the first frames, up to a place, or all frames behind them.
use Rattle.std.specs.Prelude.{◌≡◌, ◌⊎◌, ℕ, ◌+◌, ◌-◌, ◌*◌, ◌/◌, ◌<◌, ◌≤◌, Bool, List, ◌++◌, length, take, drop}
use Rattle.std.specs.Prelude.{Some, None}
use Rattle.std.specs.Io.KnownBytes.{IsAtEnd}
use Rattle.dsp_ports.specs.Ports.{append_put}
use Rattle.dsp_ports.specs.Ports.{SourceState, SinkState, Gave, IsSettled, settled_after}
use Rattle.dsp_defs.specs.Block.{Frame}
use Rattle.dsp_defs.specs.Counts.{Counts}
use Rattle.dsp_defs.specs.Output.{HasHeader, declared_frames, input_header, input_signal, live_bytes, output_header}
use Rattle.dsp_defs.specs.Output.{output_pad, part, whole_blocks, whole_bytes}
use Rattle.dsp_defs.specs.Shape.{gathered, held, window_at}
use Rattle.dsp_defs.specs.declared.limits.TheConstants.{MAX_GATHERED, MAX_INPUT}
use Rattle.dsp_defs.specs.Streaming.{Begins}
use Rattle.dsp_defs.specs.declared.measure.Measure.{Measure}
use Rattle.dsp_defs.specs.declared.script.Script.{Script}
use Rattle.dsp_defs.specs.declared.wave.Header.{Header}
use Rattle.dsp_input.specs.Taking.{AreAll, InDeclared, IsTakenWhole, declared_bytes, frame_bytes}
use Rattle.dsp_input.specs.Taking.{frames_in_bytes}
use Rattle.dsp_session.specs.Session.{StandsFor, cost_of, live_cost_of, measures_of, turns_of}
use Rattle.dsp_session.specs.SessionState.{SessionState}
use Rattle.dsp_session.specs.Stream.{KeepsLimits, IsOverfull, IsCause, CountsFault, IsUnflushed, LagsByOne}
use Rattle.dsp_session.specs.Stream.{blocks_end, in_whole_blocks}
use Rattle.dsp_session.specs.Advancing.{Runs, turns_from}
use Rattle.dsp_session.specs.declared.fault.LengthFault.TheVariants as length_fault
use Rattle.dsp_session.specs.declared.fault.StreamFault.{StreamFault}
use Rattle.dsp_session.specs.declared.fault.StreamFault.TheVariants as fault
use Rattle.dsp_session.specs.declared.fault.PartFault.{PartFault}
use Rattle.dsp_session.specs.declared.fault.PartFault.TheVariants as part_fault

-- ---- the two parts

-- what is written of the first frames: the header of the output, and their live values
abbrev pub first_output : Script → ℕ → List ℕ → List ℕ
first_output script frames bytes = output_header script (input_header script bytes) ++ live_bytes script
    (take frames (input_signal script bytes))

-- the frames behind them
abbrev pub later_frames : Script → ℕ → List ℕ → List Frame
later_frames script frames bytes = drop frames (input_signal script bytes)

-- where the first blocks of the later frames end
abbrev pub later_blocks_end : Script → ℕ → ℕ → Header → ℕ → ℕ
later_blocks_end script block from header blocks = blocks_end script block header blocks + from * frame_bytes script
    header.coding

-- beyond the first frames and the blocks of the later ones whose live values were written, at most one block was taken
pub record LaterLagsByOne (script : Script) (block : ℕ) (start : SessionState) (from : ℕ) (given written : List ℕ) :
    Type 0 where
  pub blocks : ℕ
  pub wrote : (blocks ≡ 0) ⊎ ((later_blocks_end script block from (input_header script given) blocks ≤ length given)
      × ((x : List Frame) → StandsFor start x → Begins
      (live_bytes script (x ++ later_frames script from (take
      (later_blocks_end script block from (input_header script given) blocks) given)))
      (live_bytes script x ++ written)))
  pub one : length given ≤ later_blocks_end script block from (input_header script given) (blocks + 1)

-- the turn bound of the calls that go from m frames to n, each of a block but for a shorter last one
abbrev pub part_turns : Bool → Script → ℕ → ℕ → ℕ → ℕ
part_turns banked script block m n =
    let calls = (n - m) / block in
    turns_from banked script block m calls + turns_of banked script (m + calls * block) n

-- and of the tail behind them
abbrev pub rest_turns : Bool → Script → ℕ → ℕ → ℕ → ℕ
rest_turns banked script block m n = part_turns banked script block m n + (cost_of script n - live_cost_of script n)

-- ---- causes

-- the input has so many frames: those declared, or, where none are, those that came before its end
abbrev pub HasFrames : Script → List ℕ → SourceState → ℕ → Type 0
HasFrames script given now count =
    elim (declared_frames script (input_header script given))
    [ Some declared ↦ count ≡ declared | None ↦ (count ≡ frames_in_bytes script given) × IsAtEnd now.left ]

-- why a stream from so many frames on stopped: as any stream, but that its blocks are counted from there
abbrev pub IsCauseFrom : ℕ → StreamFault → Script → ℕ → List ℕ → SourceState → Type 0
IsCauseFrom from (fault.Lengths (length_fault.Gather has more)) script block given now =
    let frames = frames_in_bytes script given in
    HasHeader script given × (from < frames) × IsOverfull script block frames
    (from + in_whole_blocks block (frames - from - 1)) has more given now
IsCauseFrom from stop script block given now = IsCause stop script block given now

-- the input ends before the place at which the part ends or begins
abbrev pub IsBehind : ℕ → ℕ → ℕ → Script → List ℕ → SourceState → Type 0
IsBehind frames at got script given now = HasHeader script given × (at ≡ frames) × (got < frames) ×
    HasFrames script given now got

-- a correlation would gather too many samples of so many frames, and holds so many of those before the last block
pub record IsFull (script : Script) (frames before has more : ℕ) : Type 0 where
  pub over : MAX_GATHERED < gathered script.blocks frames
  pub has_is : has ≡ held script.blocks before
  pub more_is : more + has ≡ gathered script.blocks frames

-- of the first frames, whose end is not that of the input: no window is at fault
abbrev pub IsFirstCause : PartFault → Script → ℕ → ℕ → List ℕ → SourceState → Type 0
IsFirstCause (part_fault.Behind at got) script block frames given now = IsBehind frames at got script given now
IsFirstCause (part_fault.Stream (fault.Lengths (length_fault.Window end full))) script block frames given now = ⊥
IsFirstCause (part_fault.Stream (fault.Lengths (length_fault.Gather has more))) script block frames given now =
    let count = frames_in_bytes script given in
    HasHeader script given × IsFull script count (in_whole_blocks block (count - 1)) has more
IsFirstCause (part_fault.Stream stop) script block frames given now = IsCause stop script block given now

-- and of the rest
abbrev pub IsRestCause : PartFault → Script → ℕ → ℕ → List ℕ → SourceState → Type 0
IsRestCause (part_fault.Behind at got) script block frames given now = IsBehind frames at got script given now
IsRestCause (part_fault.Stream stop) script block frames given now = IsCauseFrom frames stop script block given now

-- the port that has failed has counted one fault, and no other port has
abbrev pub CountsPartFault : PartFault → SourceState → SourceState → SinkState → SinkState → Type 0
CountsPartFault (part_fault.Behind at got) input now sink after = (now.faults ≡ input.faults) ×
    (after.faults ≡ sink.faults)
CountsPartFault (part_fault.Stream stop) input now sink after = CountsFault stop input now sink after

-- nobody has flushed the output behind its last byte, unless it is what failed
abbrev pub IsPartUnflushed : PartFault → SinkState → SinkState → List ℕ → Type 0
IsPartUnflushed (part_fault.Behind at got) sink after written =
    after.settled ≡ settled_after sink.settled (length written)
IsPartUnflushed (part_fault.Stream stop) sink after written = IsUnflushed stop sink after written

-- the input stopped it, and the output did not
abbrev pub IsOfInput : PartFault → Type 0
IsOfInput (part_fault.Stream (fault.Header said offset)) = Unit {0}
IsOfInput (part_fault.Stream (fault.Lengths (length_fault.Input taken limit))) = Unit {0}
IsOfInput (part_fault.Stream fault.Input) = Unit {0}
IsOfInput stop = ⊥

-- ---- the first frames

-- exactly the header and the first frames were taken, the first output was written, and the session stands for these
-- frames
pub record FirstDone (script : Script) (frames : ℕ) (session : SessionState) (input now : SourceState)
    (sink after : SinkState) (before counts : Counts) : Type 0 where
  pub given : List ℕ
  pub gave : Gave input now given
  pub has : HasHeader script given
  pub exact : length given ≡ (input_header script given).start + frames * frame_bytes script
      (input_header script given).coding
  pub frame_count : frames ≡ frames_in_bytes script given
  pub in_limit : length given ≤ MAX_INPUT
  pub stands : StandsFor session (input_signal script given)
  pub runs : Runs session
  pub limits : KeepsLimits script (input_header script given) frames
  pub put : after.put ≡ append_put sink.put (first_output script frames given)
  pub lag : LagsByOne script session.block given (first_output script frames given)
  pub settled : IsSettled after
  pub no_input_fault : now.faults ≡ input.faults
  pub no_output_fault : after.faults ≡ sink.faults
  pub cost : counts.multiplies ≡ before.multiplies + live_cost_of script frames
  pub turns : counts.turns ≤ before.turns + part_turns session.banked script session.block 0 frames

-- what was written: a front of the first output of the frames that came, where the output has failed; nothing, where
-- the header is not there or declares too few frames, or the output would be too long; and else exactly the output of
-- the whole blocks
abbrev pub FirstWritten : PartFault → Script → ℕ → List ℕ → List ℕ → SinkState → SinkState → Type 0
FirstWritten (part_fault.Behind at got) script block given written sink after =
    elim (declared_frames script (input_header script given))
    [ Some declared ↦ after ≡ sink | None ↦ written ≡ part script block given ]
FirstWritten (part_fault.Stream fault.Output) script block given written sink after =
    Begins written (first_output script (frames_in_bytes script given) given)
FirstWritten (part_fault.Stream (fault.Lengths (length_fault.Riff size limit))) script block given written sink after =
    after ≡ sink
FirstWritten stop script block given written sink after =
    ((HasHeader script given → ⊥) × (after ≡ sink)) ⊎ (written ≡ part script block given)

-- the stream over the first frames stopped before their end
pub record FirstStopped (banked : Bool) (script : Script) (block frames : ℕ) (stop : PartFault)
    (input now : SourceState) (sink after : SinkState) (before counts : Counts) : Type 0 where
  pub given : List ℕ
  pub written : List ℕ
  pub gave : Gave input now given
  pub in_limit : length given ≤ MAX_INPUT
  pub put : after.put ≡ append_put sink.put written
  pub unflushed : IsPartUnflushed stop sink after written
  pub cause : IsFirstCause stop script block frames given now
  pub wrote : FirstWritten stop script block given written sink after
  pub faults : CountsPartFault stop input now sink after
  pub lag : HasHeader script given → LagsByOne script block given written
  pub in_part : HasHeader script given → frames_in_bytes script given ≤ frames
  -- the input is at fault only where frames are missing
  pub missing : IsOfInput stop → HasHeader script given → frames_in_bytes script given < frames
  pub cost : counts.multiplies ≤ before.multiplies + live_cost_of script (frames_in_bytes script given)
  pub turns : counts.turns ≤ before.turns + part_turns banked script block 0 (frames_in_bytes script given)

-- ---- the rest

-- all samples were taken; for each signal x that the session stood for, what it gives of x and the later frames
-- beyond what it had given of x was written, and the pad byte;
-- and the measures found are those of all these frames
pub record RestDone (script : Script) (start : SessionState) (from frames : ℕ) (input now : SourceState)
    (sink after : SinkState) (before counts : Counts) (found : List Measure) : Type 0 where
  pub given : List ℕ
  pub written : List ℕ
  pub gave : Gave input now given
  pub has : HasHeader script given
  pub in_limit : length given ≤ MAX_INPUT
  pub room_left : (input_header script given).size ≡ None → length given < MAX_INPUT
  pub whole : IsTakenWhole script given now
  pub frame_count : frames ≡ frames_in_bytes script given
  pub enough : from ≤ frames
  pub limits : KeepsLimits script (input_header script given) frames
  pub no_window : window_at script.blocks frames ≡ None
  pub put : after.put ≡ append_put sink.put written
  pub lag : LaterLagsByOne script start.block start from given written
  pub output : (x : List Frame) → StandsFor start x
      → live_bytes script x ++ written ≡ whole_bytes script (x ++ later_frames script from given) ++ output_pad script
      (input_header script given)
  pub settled : IsSettled after
  pub no_input_fault : now.faults ≡ input.faults
  pub no_output_fault : after.faults ≡ sink.faults
  pub cost : counts.multiplies + live_cost_of script from ≤ before.multiplies + cost_of script frames
  pub turns : counts.turns ≤ before.turns + rest_turns start.banked script start.block from frames
  pub exact : (x : List Frame) → StandsFor start x → counts.multiplies + live_cost_of script from ≡ before.multiplies
      + cost_of script frames
  pub measures : (x : List Frame) → StandsFor start x → found ≡ measures_of script (x ++ later_frames script from given)

-- where the output has failed, a front was written of what the later frames that came add to the live values, or, once
-- the input has ended, of all that was to come; else nothing, where the header is not there, or exactly what the whole
-- blocks of the later frames add
abbrev pub RestWritten : PartFault → Script → ℕ → List Frame → ℕ → List ℕ → List ℕ → SourceState → SinkState →
    SinkState → Type 0
RestWritten (part_fault.Stream fault.Output) script block x from given written now sink after =
    let all = x ++ later_frames script from given in
    Begins (live_bytes script x ++ written) (live_bytes script all)
    ⊎ (IsTakenWhole script given now × Begins (live_bytes script x ++ written)
    (whole_bytes script all ++ output_pad script (input_header script given)))
RestWritten stop script block x from given written now sink after =
    ((HasHeader script given → ⊥) × (after ≡ sink))
    ⊎ (live_bytes script x ++ written ≡ live_bytes script (x ++ whole_blocks block (later_frames script from given)))

-- the stream over the rest stopped before its end; where the input ends before the rest begins nothing was worked on
pub record RestStopped (script : Script) (block : ℕ) (start : SessionState) (from : ℕ) (stop : PartFault)
    (input now : SourceState) (sink after : SinkState) (before counts : Counts) : Type 0 where
  pub given : List ℕ
  pub written : List ℕ
  pub gave : Gave input now given
  pub in_limit : length given ≤ MAX_INPUT
  pub put : after.put ≡ append_put sink.put written
  pub unflushed : IsPartUnflushed stop sink after written
  pub cause : IsRestCause stop script block from given now
  pub idle : frames_in_bytes script given < from → (after ≡ sink) × (counts ≡ before)
  pub wrote : (x : List Frame) → StandsFor start x → RestWritten stop script block x from given written now sink after
  pub lag : HasHeader script given → LaterLagsByOne script block start from given written
  pub faults : CountsPartFault stop input now sink after
  pub cost : from ≤ frames_in_bytes script given → counts.multiplies + live_cost_of script from ≤ before.multiplies +
      cost_of script (frames_in_bytes script given)
  pub turns : from ≤ frames_in_bytes script given → counts.turns ≤ before.turns + rest_turns start.banked script block
      from (frames_in_bytes script given)

-- ---- passing over samples

-- so many bytes of samples were taken: all up to the end of the part, unless the samples have ended
pub record Skipped (script : Script) (header : Header) (end taken : ℕ) (input now : SourceState) : Type 0 where
  pub bytes : List ℕ
  pub gave : Gave input now bytes
  pub long : length bytes ≡ taken
  pub in_part : taken ≤ end
  pub declared : InDeclared (declared_bytes script header) taken
  pub in_limit : header.start + taken ≤ MAX_INPUT
  pub ended : (taken ≡ end) ⊎ AreAll (declared_bytes script header) taken now
  pub room_left : header.size ≡ None → taken < end → header.start + taken < MAX_INPUT
  pub no_fault : now.faults ≡ input.faults
  pub going : taken ≡ end → now.ended ≡ input.ended
