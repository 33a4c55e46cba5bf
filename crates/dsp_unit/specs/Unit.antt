-- A unit is one block of a chain at its place. It is fed with frames, block after block, and then gives its tail.
use Rattle.std.specs.Prelude.{◌≡◌, ℕ, ◌+◌, ◌-◌, ◌*◌, ◌^◌, ◌≤◌, ℤ, Bool, true, false, List, [], ◌++◌, length, All}
use Rattle.std.specs.Prelude.{FitsSigned, Option, Some, None, IfSome}
use Rattle.std.specs.Int.{div_ceil}
use Rattle.dsp_defs.specs.Formats.{word}
use Rattle.dsp_defs.specs.Streaming.{Continues}
unfoldable pub use Rattle.dsp_defs.specs.Block.{frames_in}
use Rattle.dsp_defs.specs.Block.{Frame, whole, live, format_after, channels_after}
use Rattle.dsp_defs.specs.Shape.{group_of, whole_frames, live_frames}
use Rattle.dsp_defs.specs.Cost.{cost_so_far, live_block_cost, unit_turns}
use Rattle.dsp_defs.specs.Kept.{kept_numbers, HasPlace, limit_of}
use Rattle.dsp_defs.specs.Kept.{kept_measures}
use Rattle.dsp_defs.specs.Counts.{Counts}
use Rattle.dsp_defs.specs.declared.format.Fmt.{Fmt}
use Rattle.dsp_defs.specs.declared.measure.Measure.{Measure}
use Rattle.dsp_defs.specs.declared.script.Block.{Block}
use Rattle.dsp_defs.specs.declared.script.Block.TheVariants.{Interpolate}

-- ---- samples of a slice

-- the samples are whole frames of numbers of the format
pub record IsSignal (format : Fmt) (channels : ℕ) (samples : List ℤ) : Type 0 where
  pub whole_frames : length samples ≡ length (frames_in channels samples) * channels
  pub in_format : All (FitsSigned (word format)) samples

-- ---- units

-- the multiplies that a block makes for n frames of a whole signal: its cost, but that a partial convolution ends
-- with the full one
abbrev pub whole_products : Fmt → ℕ → Block → ℕ → ℕ
whole_products format c block n = cost_so_far format c block n n (whole_frames block n)

-- the most frames that n frames give in one call, whatever was taken before them
abbrev pub most_groups : Option (ℕ × ℕ) → ℕ → ℕ
most_groups None n = n
most_groups (Some g) n = div_ceil n g.0 * g.1

-- the most frames that a call with n frames may give: n * L of `interpolate`, M rows for each group begun, else n
abbrev pub most_frames : Block → ℕ → ℕ
most_frames (Interpolate factor taps) n = n * factor
most_frames block n = most_groups (group_of block) n

-- no unit keeps more numbers than this: so few that a chain can add them up
abbrev pub most_kept : ℕ
most_kept = 2 ^ 40

-- no unit has room for more samples than this
abbrev pub most_room : ℕ
most_room = 2 ^ 40

-- what a contract sees of a unit: how it was made, and whether as a bank over all channels; the numbers that it keeps,
-- the tail that it still has to give, and whether the tail was begun
pub record UnitState : Type 0 where
  pub block : Block
  pub format : Fmt
  pub channels : ℕ
  pub capacity : ℕ
  pub banked : Bool
  pub kept : List ℤ
  pub tail : List Frame
  pub ended : Bool

-- the samples of the output that one call needs at most
abbrev pub room_of : UnitState → ℕ
room_of u = most_frames u.block u.capacity * channels_after u.channels u.block

-- the unit was made in the same way
pub record MadeAs (old new : UnitState) : Type 0 where
  pub block : new.block ≡ old.block
  pub format : new.format ≡ old.format
  pub channels : new.channels ≡ old.channels
  pub capacity : new.capacity ≡ old.capacity
  pub banked : new.banked ≡ old.banked

-- the unit has taken the frames x, and nothing of its tail was given
pub record StandsFor (u : UnitState) (x : List Frame) : Type 0 where
  pub running : u.ended ≡ false
  pub keeps : u.kept ≡ kept_numbers u.format u.channels u.block x
  pub tail_follows : whole u.format u.channels u.block x ≡ live u.format u.channels u.block x ++ u.tail

-- the unit is where n frames lead it, whatever their values were
pub record CountsFrames (u : UnitState) (n : ℕ) : Type 0 where
  pub running : u.ended ≡ false
  pub place : HasPlace u.format u.channels u.block n u.kept
  pub tail_frames : whole_frames u.block n ≡ live_frames u.block n + length u.tail

-- the same where its tail may be begun
pub record TookFrames (u : UnitState) (n : ℕ) : Type 0 where
  pub place : HasPlace u.format u.channels u.block n u.kept
  pub tail_within : length u.tail ≤ whole_frames u.block n

-- the frames that it has given of n frames that it took: those of the whole signal before its tail
abbrev pub given_so_far : UnitState → ℕ → ℕ
given_so_far u n = whole_frames u.block n - length u.tail

-- and the multiplies that it has made for them
abbrev pub made_so_far : UnitState → ℕ → ℕ
made_so_far u n = cost_so_far u.format u.channels u.block n n (given_so_far u n)

-- the turn bound of a call that leads it from m frames to n
abbrev pub turns_of : UnitState → ℕ → ℕ → ℕ
turns_of u m n = unit_turns u.banked u.format u.channels u.block m n

-- if its block has a limit, it can take so many frames more
abbrev pub Accepts : UnitState → ℕ → Type 0
Accepts u more = IfSome (limit_of u.block) (λ limit. (n : ℕ) × CountsFrames u n × (n + more ≤ limit))

-- the measures of what it has taken; `number` is its place in the script
abbrev pub measures_of : ℕ → UnitState → List Measure
measures_of number u = kept_measures u.format u.channels number u.block u.kept

-- the call took the frames `taken`, and gave the next live frames
pub record Feeds (old new : UnitState) (taken given : List Frame) (before after : Counts) : Type 0 where
  pub made : MadeAs old new
  pub values : (x : List Frame) → StandsFor old x → Continues (live old.format old.channels old.block) x taken given
  pub stands : (x : List Frame) → StandsFor old x → StandsFor new (x ++ taken)
  pub frames : (n : ℕ) → CountsFrames old n → live_frames old.block (n + length taken) ≡ live_frames old.block n +
      length given
  pub counts : (n : ℕ) → CountsFrames old n → CountsFrames new (n + length taken)
  pub multiplies : (n : ℕ) → CountsFrames old n → live_block_cost old.format old.channels old.block (n + length taken)
      + before.multiplies ≡ live_block_cost old.format old.channels old.block n + after.multiplies
  pub turns : (n : ℕ) → CountsFrames old n → after.turns ≤ before.turns + turns_of old n (n + length taken)

-- the call gave the next frames of the tail, and none only where it is spent; what was measured stays
pub record Finishes (old new : UnitState) (given : List Frame) (before after : Counts) : Type 0 where
  pub made : MadeAs old new
  pub ended : new.ended ≡ true
  pub tail : old.tail ≡ given ++ new.tail
  pub spent : given ≡ [] → old.tail ≡ []
  pub took : (n : ℕ) → TookFrames old n → TookFrames new n
  pub multiplies : (n : ℕ) → TookFrames old n → made_so_far new n + before.multiplies ≡ made_so_far old n +
      after.multiplies
  pub turns : (n : ℕ) → TookFrames old n → after.turns + made_so_far old n ≤ before.turns + made_so_far new n
  pub measures : (number : ℕ) → measures_of number new ≡ measures_of number old

-- the unit keeps these numbers and no others, so it stands for each signal that gives them, and counts each number of
-- frames that can give them
pub record Restores (old new : UnitState) (numbers : List ℤ) : Type 0 where
  pub made : MadeAs old new
  pub running : new.ended ≡ false
  pub kept : new.kept ≡ numbers
  pub stands : (x : List Frame) → numbers ≡ kept_numbers old.format old.channels old.block x → StandsFor new x
  pub counts : (n : ℕ) → HasPlace old.format old.channels old.block n numbers → CountsFrames new n

-- what a call wrote is at most `most` frames, as the block gives them
pub record IsOutput (u : UnitState) (most : ℕ) (samples : List ℤ) : Type 0 where
  pub signal : IsSignal (format_after u.format u.block) (channels_after u.channels u.block) samples
  pub at_most : length (frames_in (channels_after u.channels u.block) samples) ≤ most

-- a unit of the block at its place, that has taken nothing and is no bank
pub record IsNew (b : Block) (f : Fmt) (c n : ℕ) (u : UnitState) : Type 0 where
  pub block : u.block ≡ b
  pub format : u.format ≡ f
  pub channels : u.channels ≡ c
  pub capacity : u.capacity ≡ n
  pub plain : u.banked ≡ false
  pub stands : StandsFor u []
  pub counts : CountsFrames u 0

-- the same where a unit may be a bank: its turn bound is that of the block, banked or not
pub record IsMade (banked : Bool) (b : Block) (f : Fmt) (c n : ℕ) (u : UnitState) : Type 0 where
  pub block : u.block ≡ b
  pub format : u.format ≡ f
  pub channels : u.channels ≡ c
  pub capacity : u.capacity ≡ n
  pub turns : (m k : ℕ) → turns_of u m k ≡ unit_turns banked f c b m k
  pub stands : StandsFor u []
  pub counts : CountsFrames u 0
