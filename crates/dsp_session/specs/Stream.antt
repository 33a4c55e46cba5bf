-- How the bytes that a stream took and the bytes that it wrote stand to each other at each of its ends.
use Rattle.std.specs.Prelude.{◌≡◌, ◌⊎◌, ℕ, ◌+◌, ◌-◌, ◌*◌, ◌/◌, ◌<◌, ◌≤◌, Bool, List, length, take, Some, None}
use Rattle.dsp_ports.specs.Ports.{append_put}
use Rattle.dsp_defs.specs.Counts.{Counts}
use Rattle.dsp_ports.specs.Ports.{SourceState, SinkState, one_more, Gave, IsSettled, settled_after}
use Rattle.dsp_defs.specs.Output.{HasHeader, input_header, input_signal, known_frames, output, part}
use Rattle.dsp_defs.specs.Shape.{gathered, held, window_at}
use Rattle.dsp_defs.specs.Streaming.{Begins}
use Rattle.dsp_defs.specs.declared.limits.TheConstants.{MAX_GATHERED, MAX_INPUT, MAX_RIFF_SIZE}
use Rattle.dsp_defs.specs.declared.measure.Measure.{Measure}
use Rattle.dsp_defs.specs.declared.script.Script.{Script}
use Rattle.dsp_defs.specs.declared.wave.Header.{Header}
pub use Rattle.dsp_input.specs.Taking.{AwaitsDeclared, HasFault, IsInDeclared, IsTakenWhole, WantsMore}
pub use Rattle.dsp_input.specs.Taking.{declared_bytes, frames_in_bytes, in_whole_frames, input_fault, short_fault}
pub use Rattle.dsp_input.specs.Taking.{wave_fault}
use Rattle.dsp_input.specs.Taking.{Fits, IsTooLong}
use Rattle.dsp_session.specs.Session.{block_bytes, cost_of, live_cost_of, run_turns, measures_of}
use Rattle.dsp_session.specs.SessionState.{SessionState}
use Rattle.dsp_session.specs.declared.fault.LengthFault.TheVariants as length_fault
use Rattle.dsp_session.specs.declared.fault.StreamFault.{StreamFault}
use Rattle.dsp_session.specs.declared.fault.StreamFault.TheVariants as fault

-- where the first blocks of samples behind a header end
abbrev pub blocks_end : Script → ℕ → Header → ℕ → ℕ
blocks_end script block header blocks = header.start + blocks * block_bytes script header.coding block

-- beyond the header and the blocks whose live values were written, at most one block was taken
pub record LagsByOne (script : Script) (block : ℕ) (given written : List ℕ) : Type 0 where
  pub blocks : ℕ
  pub taken : blocks_end script block (input_header script given) blocks ≤ length given
  pub wrote : (blocks ≡ 0) ⊎ Begins (part script block
      (take (blocks_end script block (input_header script given) blocks) given)) written
  pub one : length given ≤ blocks_end script block (input_header script given) (blocks + 1)

-- ---- limits

-- the frames of the whole blocks among n frames
abbrev pub in_whole_blocks : ℕ → ℕ → ℕ
in_whole_blocks block n = n / block * block

-- where so many frames were worked on: the output fits its header, and what a correlation gathered is not too much
pub record KeepsLimits (script : Script) (header : Header) (frames : ℕ) : Type 0 where
  pub fits : Fits script header
  pub not_full : gathered script.blocks frames ≤ MAX_GATHERED

-- ---- ends before the end

-- a correlation would gather too many samples of so many frames, and holds so many of the whole blocks before the
-- last one;
-- where less than a block stands behind these, the input has ended and no window is at fault
pub record IsOverfull (script : Script) (block frames before has more : ℕ) (given : List ℕ) (now : SourceState) : Type
    0 where
  pub over : MAX_GATHERED < gathered script.blocks frames
  pub has_is : has ≡ held script.blocks before
  pub more_is : more + has ≡ gathered script.blocks frames
  pub no_window : frames < before + block → IsTakenWhole script given now × (window_at script.blocks frames ≡ None)

-- why it stopped, from the bytes that were taken
abbrev pub IsCause : StreamFault → Script → ℕ → List ℕ → SourceState → Type 0
IsCause fault.Input script block given now = (length given < MAX_INPUT) × AwaitsDeclared script given
IsCause fault.Output script block given now = HasHeader script given
IsCause (fault.Header fault offset) script block given now = HasFault script given now (fault, offset)
IsCause (fault.Lengths (length_fault.Input taken limit)) script block given now = (length given ≡ MAX_INPUT) ×
    (taken ≡ MAX_INPUT) × (limit ≡ MAX_INPUT) × WantsMore script given
IsCause (fault.Lengths (length_fault.Gather held more)) script block given now =
    let frames = frames_in_bytes script given in
    HasHeader script given × IsOverfull script block frames (in_whole_blocks block (frames - 1)) held more given now
IsCause (fault.Lengths (length_fault.Window end full)) script block given now =
    HasHeader script given × IsTakenWhole script given now ×
    (window_at script.blocks (frames_in_bytes script given) ≡ Some (end, full))
IsCause (fault.Lengths (length_fault.Riff size limit)) script block given now =
    let header = input_header script given in
    HasHeader script given × (length given ≡ header.start) × IsTooLong script (known_frames script header) size ×
    (limit ≡ MAX_RIFF_SIZE)

-- nothing was written since the header of the input isn't there; or so many frames were worked on, which kept the
-- limits, and exactly the part output was written
pub data WrotePart (script : Script) (block worked : ℕ) (given written : List ℕ) (sink after : SinkState)
    (before counts : Counts) : Type 0 where
  Nothing : (HasHeader script given → ⊥) → after ≡ sink →
      WrotePart script block worked given written sink after before counts
  Part : HasHeader script given → written ≡ part script block given →
      KeepsLimits script (input_header script given) worked
      → counts.multiplies ≡ before.multiplies + live_cost_of script worked →
      WrotePart script block worked given written sink after before counts

-- what was written: a front, where the output has failed, before all that was due by then was written, or behind all
-- samples where nothing
-- else is at fault; nothing, where it would be too long; and else the output of the whole blocks, without a last one
-- that was too much for a correlation
abbrev pub HasWritten : StreamFault → Script → ℕ → List ℕ → List ℕ → SourceState → SinkState → SinkState → Counts →
    Counts → Type 0
HasWritten fault.Output script block given written now sink after before counts =
    KeepsLimits script (input_header script given) (in_whole_blocks block (frames_in_bytes script given))
    × ((Begins written (part script block given) × (length written < length (part script block given)))
    ⊎ (Begins written (output script given) × IsTakenWhole script given now
    × (window_at script.blocks (frames_in_bytes script given) ≡ None)
    × (gathered script.blocks (frames_in_bytes script given) ≤ MAX_GATHERED)))
HasWritten (fault.Lengths (length_fault.Riff size limit)) script block given written now sink after before counts =
    after ≡ sink
HasWritten (fault.Lengths (length_fault.Gather held more)) script block given written now sink after before counts =
    WrotePart script block (in_whole_blocks block (frames_in_bytes script given - 1)) given written sink after before
    counts
HasWritten fault script block given written now sink after before counts =
    WrotePart script block (in_whole_blocks block (frames_in_bytes script given)) given written sink after before counts

-- the port that has failed has counted one fault, and no other port has
abbrev pub CountsFault : StreamFault → SourceState → SourceState → SinkState → SinkState → Type 0
CountsFault fault.Input input now sink after = (now.faults ≡ one_more input.faults) × (after.faults ≡ sink.faults)
CountsFault fault.Output input now sink after = (now.faults ≡ input.faults) × (after.faults ≡ one_more sink.faults)
CountsFault fault input now sink after = (now.faults ≡ input.faults) × (after.faults ≡ sink.faults)

-- nobody has flushed the output behind its last byte, unless it is what failed
abbrev pub IsUnflushed : StreamFault → SinkState → SinkState → List ℕ → Type 0
IsUnflushed fault.Output sink after written = Unit {0}
IsUnflushed fault sink after written = after.settled ≡ settled_after sink.settled (length written)

-- the stream stopped before its end; `given` and `written` are all bytes that were taken and that were written
pub record Stopped (banked : Bool) (script : Script) (block : ℕ) (fault : StreamFault) (input now : SourceState)
    (sink after : SinkState) (before counts : Counts) : Type 0 where
  pub given : List ℕ
  pub written : List ℕ
  pub gave : Gave input now given
  pub in_limit : length given ≤ MAX_INPUT
  pub put : after.put ≡ append_put sink.put written
  pub unflushed : IsUnflushed fault sink after written
  pub cause : IsCause fault script block given now
  pub wrote : HasWritten fault script block given written now sink after before counts
  pub faults : CountsFault fault input now sink after
  pub in_declared : HasHeader script given → IsInDeclared script given
  pub lag : HasHeader script given → LagsByOne script block given written
  pub cost : counts.multiplies ≤ before.multiplies + cost_of script (frames_in_bytes script given)
  pub turns : counts.turns ≤ before.turns + run_turns banked script block (frames_in_bytes script given)

-- where a correlation was full, the session answers the same fault from now on, and still holds what it held
abbrev pub StaysRefused : StreamFault → SessionState → Type 0
StaysRefused (fault.Lengths (length_fault.Gather told more)) s =
    (s.chain.failed ≡ Some (record { held = told; more = more })) × (told ≡ held s.script.blocks s.chain.frames)
StaysRefused fault s = Unit {0}

-- ---- the end

-- all samples were taken, exactly the output of the script was written, and the measures found are those of the whole
-- signal at each place
pub record Done (banked : Bool) (script : Script) (block frames : ℕ) (input now : SourceState)
    (sink after : SinkState) (before counts : Counts) (found : List Measure) : Type 0 where
  pub given : List ℕ
  pub gave : Gave input now given
  pub has : HasHeader script given
  pub in_limit : length given ≤ MAX_INPUT
  pub room_left : (input_header script given).size ≡ None → length given < MAX_INPUT
  pub whole : IsTakenWhole script given now
  pub limits : KeepsLimits script (input_header script given) frames
  pub no_window : window_at script.blocks frames ≡ None
  pub put : after.put ≡ append_put sink.put (output script given)
  pub lag : LagsByOne script block given (output script given)
  pub settled : IsSettled after
  pub no_input_fault : now.faults ≡ input.faults
  pub no_output_fault : after.faults ≡ sink.faults
  pub frame_count : frames ≡ frames_in_bytes script given
  pub cost : counts.multiplies ≡ before.multiplies + cost_of script frames
  pub turns : counts.turns ≤ before.turns + run_turns banked script block frames
  pub measures : found ≡ measures_of script (input_signal script given)
