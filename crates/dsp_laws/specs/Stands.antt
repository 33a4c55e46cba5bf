-- What stands once a run or a gen has begun its stream, however it ended.
use Rattle.std.specs.Prelude.{◌≡◌, ◌⊎◌, ◌+◌, ◌-◌, ◌/◌, ◌≤◌, ℕ, List, length, None, Some}
use Rattle.dsp_ports.specs.Ports.{SourceState, SinkState, settled_after}
use Rattle.dsp_defs.specs.Output.{HasHeader, input_header, known_frames, output, part as part_of}
use Rattle.dsp_command.specs.Report.{input_limit_line, gather_line, window_line, riff_line, report_text}
use Rattle.dsp_defs.specs.Shape.{gathered, window_at}
use Rattle.dsp_defs.specs.Streaming.{Begins}
use Rattle.dsp_command.specs.Words.{command_of}
use Rattle.dsp_defs.specs.declared.limits.TheConstants.{MAX_GATHERED, MAX_INPUT, MAX_RIFF_SIZE}
use Rattle.dsp_defs.specs.declared.measure.Measure.{Measure}
use Rattle.dsp_defs.specs.declared.script.Script.{Script}
use Rattle.dsp_session.specs.Opening.{IsTooLong}
use Rattle.dsp_session.specs.Session.{cost_of, run_turns}
use Rattle.dsp_session.specs.Stream.{IsOverfull, IsTakenWhole, KeepsLimits, LagsByOne, WantsMore, frames_in_bytes}
use Rattle.dsp_session.specs.Stream.{in_whole_blocks}
use Rattle.dsp_cli.specs.Call.{Call}
use Rattle.dsp_cli.specs.Run.{IsDone, Tells, Wrote}
use Rattle.dsp_cli.specs.Script.{IfScript, chosen_block, is_banked}
use Rattle.dsp_laws.specs.Taken.{FoundMeasures, IfTaken, IsReader, TookFrames, count_taken, least_frame_bytes}

-- ---- statuses

-- the input, or a length, has stopped the stream before its end
abbrev pub IsBroken : ℕ → Type 0
IsBroken status = (status ≡ 4) ⊎ (status ≡ 5) ⊎ (status ≡ 7)

-- the stream stopped before its end
abbrev pub IsStopped : ℕ → Type 0
IsStopped status = IsBroken status ⊎ (status ≡ 8)

-- ---- what was written

-- a front of these bytes was written
abbrev pub WroteFront : List ℕ → SinkState → SinkState → Type 0
WroteFront bytes old new = (written : List ℕ) × Wrote written old new × Begins written bytes

-- the output has not failed, and was not flushed behind its last byte
abbrev pub WasLeft : SinkState → SinkState → Type 0
WasLeft old new = (new.faults ≡ old.faults) × ((written : List ℕ) × Wrote written old new
    × (new.settled ≡ settled_after old.settled (length written)))

-- nothing can be written: the header of the input isn't all there, or the output would be too long
abbrev pub IsUnwritten : Script → List ℕ → Type 0
IsUnwritten script given =
    (HasHeader script given → ⊥) ⊎ ((size : ℕ) × IsTooLong script (known_frames script (input_header script given))
    size)

-- when these bytes were taken exactly the part output was written, or nothing could be
abbrev pub WrotePart : Script → ℕ → List ℕ → SinkState → SinkState → Type 0
WrotePart script block given old new =
    (HasHeader script given × Wrote (part_of script block given) old new) ⊎ (IsUnwritten script given × (new ≡ old))

-- ---- lengths

-- a correlation would gather too many samples of the frames that were taken, but not of the whole blocks before the
-- last one, of which it holds so many
abbrev pub OverfillsLast : Script → ℕ → ℕ → ℕ → List ℕ → SourceState → Type 0
OverfillsLast script block has more given now =
    let frames = frames_in_bytes script given in
    let before = in_whole_blocks block (frames - 1) in
    (gathered script.blocks before ≤ MAX_GATHERED) × IsOverfull script block frames before has more given now

-- a length is past its limit, and the line says it; nothing was written where it is the output's
pub data TellsLength (c : Call) (input now : SourceState) (report told : SinkState) : Type 0 where
  Taken : now.taken ≡ input.taken + MAX_INPUT → IfTaken c input now WantsMore
      → Tells (input_limit_line MAX_INPUT MAX_INPUT) report told → TellsLength c input now report told
  Gather : (has more : ℕ)
      → IfTaken c input now (λ s given. HasHeader s given × OverfillsLast s (chosen_block c.words s) has more given now)
      → Tells (gather_line has more) report told → TellsLength c input now report told
  Window : (end full : ℕ)
      → IfTaken c input now (λ s given. HasHeader s given × IsTakenWhole s given now
      × (window_at s.blocks (frames_in_bytes s given) ≡ Some (end, full)))
      → Tells (window_line end full) report told → TellsLength c input now report told
  Riff : (size : ℕ)
      → IfTaken c input now (λ s given. HasHeader s given × (length given ≡ (input_header s given).start)
      × IsTooLong s (known_frames s (input_header s given)) size)
      → c.after ≡ c.sink → Tells (riff_line size MAX_RIFF_SIZE) report told → TellsLength c input now report told

-- ---- all of it

-- of a call, its status and its report: what was taken, what was written, what it cost, and what was said
pub record Stands (c : Call) (status : ℕ) (report told : SinkState) : Type 0 where
  -- what was read, before and after
  pub input : SourceState
  pub now : SourceState
  pub reader : IsReader (command_of c.words) c.source.left c.port c.later input now
  -- all samples were taken, and every length was kept
  pub ended : IsDone status → IfTaken c input now (λ s given. HasHeader s given × IsTakenWhole s given now)
  pub in_limits : IsDone status → IfTaken c input now (λ s given.
      KeepsLimits s (input_header s given) (frames_in_bytes s given) ×
      (window_at s.blocks (frames_in_bytes s given) ≡ None))
  -- the input, or a length, has stopped the stream: exactly the output of the whole blocks that were taken was written
  pub part : IsBroken status → IfTaken c input now (λ s given.
      WrotePart s (chosen_block c.words s) given c.sink c.after)
  -- and the output has not failed, and nobody flushed it
  pub unflushed : IsBroken status → WasLeft c.sink c.after
  -- the output has stopped it: a front of that was, or of the whole output where the input had ended
  pub front : status ≡ 8 → IfTaken c input now (λ s given. HasHeader s given
      × (WroteFront (part_of s (chosen_block c.words s) given) c.sink c.after
      ⊎ (WroteFront (output s given) c.sink c.after × IsTakenWhole s given now)))
  -- at most one block was taken beyond what was written
  pub lag : IfTaken c input now (λ s given.
      (written : List ℕ) × Wrote written c.sink c.after ×
      (HasHeader s given → LagsByOne s (chosen_block c.words s) given written))
  -- a length is past its limit
  pub lengths : status ≡ 5 → TellsLength c input now report told
  -- the multiplies, for the whole frames that were taken
  pub cost : IfTaken c input now (λ s given.
      c.counts.multiplies ≤ c.before.multiplies + cost_of s (frames_in_bytes s given))
  pub most : IfScript c.source.left (λ s.
      c.counts.multiplies ≤ c.before.multiplies + cost_of s (count_taken input now / least_frame_bytes s))
  pub exact_cost : IsDone status → IfScript c.source.left (λ s.
      (frames : ℕ) × TookFrames s frames input now × (c.counts.multiplies ≡ c.before.multiplies + cost_of s frames))
  -- the turns of its loops, for these frames
  pub turns : IfTaken c input now (λ s given.
      c.counts.turns ≤ c.before.turns + run_turns (is_banked c.words) s (chosen_block c.words s)
      (frames_in_bytes s given))
  -- what a stream that went over its whole input says of itself
  pub reported : IsDone status → IfScript c.source.left (λ s. (frames : ℕ) × (found : List Measure)
      × TookFrames s frames input now × FoundMeasures s found input now
      × Tells (report_text s frames found) report told × (status ≡ 0 → Wrote (report_text s frames found) report told))
