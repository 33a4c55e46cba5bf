-- What a line of units may be fed with, and the measures that it has.
use Rattle.std.specs.Prelude.{ℕ, ◌+◌, ◌≤◌, ℤ, List, [], ◌∷◌, length, take, Option, Some, None}
use Rattle.dsp_defs.specs.Block.{channels_after}
use Rattle.dsp_unit.specs.Unit.{UnitState, frames_in}
use Rattle.dsp_unit.specs.Line.{Place, place_behind, place_room, Passes, blocks_of, InLine, AllAccept, AllTaken}
use Rattle.dsp_unit.specs.Line.{AllTook}
use Rattle.dsp_defs.specs.declared.limits.TheConstants.{MAX_CHANNELS}
use Rattle.dsp_defs.specs.declared.script.Block.{Block}
use Rattle.dsp_defs.specs.declared.script.Block.TheVariants.{Power, Dot, CmplxDot, Max, Min}

-- the line is at a place that the samples may pass, it can take them, and so much room is enough for what it gives
pub record MayTake (us : List UnitState) (frames : List ℤ) (size : ℕ) : Type 0 where
  pub place : Place
  pub line : InLine place us
  pub passes : Passes place frames
  pub accepts : AllAccept us (length (frames_in place.channels frames))
  pub room : place_room (place_behind place (blocks_of us)) ≤ size

-- what a line gave of some frames: the first so many samples of the row that it writes to, or the frames as they are
abbrev pub given_by : Option ℕ → List ℤ → List ℤ → List ℤ
given_by None frames row = frames
given_by (Some count) frames row = take count row

-- so much room is enough for what the line gives of its tail, whose units took some frames that they may take
pub record MayFinish (us : List UnitState) (size : ℕ) : Type 0 where
  pub place : Place
  pub line : InLine place us
  pub room : place_room (place_behind place (blocks_of us)) ≤ size
  pub frames : ℕ
  pub took : AllTook us frames
  pub taken : AllTaken (blocks_of us) frames

-- at each place there are at most as many channels as there may be
abbrev pub FewChannels : ℕ → List Block → Type 0
FewChannels channels [] = channels ≤ MAX_CHANNELS
FewChannels channels (block ∷ blocks) = (channels ≤ MAX_CHANNELS) × FewChannels (channels_after channels block) blocks

-- the measures that a block has, and those of a chain: as many through all its calls
abbrev pub measure_count : ℕ → Block → ℕ
measure_count channels Power = channels
measure_count channels Dot = 1
measure_count channels CmplxDot = 1
measure_count channels Max = channels
measure_count channels Min = channels
measure_count channels block = 0

abbrev pub measure_counts : ℕ → List Block → ℕ
measure_counts channels [] = 0
measure_counts channels (block ∷ blocks) = measure_count channels block + measure_counts
    (channels_after channels block) blocks
