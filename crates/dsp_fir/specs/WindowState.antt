-- What a contract sees of a filter over a window, FIR or sparse.
use Rattle.std.specs.Prelude.{ℕ, ◌-◌, ◌*◌, ◌<◌, ◌≤◌, ◌≡◌, ℤ, pos, Bool, false, List, length, map, replicate, Option}
use Rattle.std.specs.Prelude.{None, Some, IfSome}
use Rattle.dsp_defs.specs.Cost.{block_turns, lane_turns}
use Rattle.dsp_defs.specs.Shape.{group_of}
use Rattle.dsp_defs.specs.Streaming.{last_of}
use Rattle.dsp_defs.specs.declared.limits.TheConstants.{MAX_DELAY}
use Rattle.dsp_unit.specs.Filter.{FilterState, steady_filter}
use Rattle.dsp_defs.specs.Kept.{greatest, kept_of_channel}
use Rattle.dsp_unit.specs.Filter.{IsSampleBlock}
use Rattle.dsp_defs.specs.declared.format.Fmt.{Fmt}
use Rattle.dsp_defs.specs.declared.script.Block.{Block}
use Rattle.dsp_defs.specs.declared.script.Block.TheVariants.{Fir, Sparse}

-- the delays of a sparse filter's taps, and the most samples of a call
pub record DelayState : Type 0 where
  pub delays : List ℕ
  pub room : ℕ

-- the block of taps, and of their delays if there are any
abbrev pub block_of : List ℤ → Option DelayState → Block
block_of taps None = Fir taps
block_of taps (Some d) = Sparse taps (map pos d.delays)

-- its block, the last numbers that it took, the most samples of a call, and whether `finish` was called
pub record WindowState : Type 0 where
  pub block : Block
  pub past : List ℤ
  pub capacity : ℕ
  pub ended : Bool

-- a filter that has taken nothing, and reads so many samples of the past
abbrev pub new_filter : Block → ℕ → ℕ → WindowState
new_filter block past capacity = record {
  block = block;
  past = replicate past (pos 0);
  capacity = capacity;
  ended =
      false;
}

-- the filter has taken the signal x: it keeps the last numbers of it that its block reads, with zeros before
abbrev pub StandsFor : Fmt → WindowState → List ℤ → Type 0
StandsFor format f x = f.past ≡ kept_of_channel format f.block x

-- what a unit sees of the filter of one of its channels
abbrev pub channel_state : Fmt → WindowState → FilterState
channel_state format f = steady_filter format f.block f.capacity f.past f.ended

-- ---- the blocks

-- the products for a sample: one for each tap
abbrev pub tap_count : Block → ℕ
tap_count (Fir taps) = length taps
tap_count (Sparse taps delays) = length taps
tap_count block = 0

-- how many samples of the past the block reads
abbrev pub past_count : Block → ℕ
past_count (Fir taps) = length taps - 1
past_count (Sparse taps delays) = greatest delays
past_count block = 0

-- the block gives one value for each sample, of that and of the last samples before it
pub record IsWindowBlock (format : Fmt) (block : Block) : Type 0 where
  pub samples : IsSampleBlock format block (past_count block) (tap_count block)
  pub keeps : (x : List ℤ) → kept_of_channel format block x ≡ last_of (past_count block) x
  pub few : past_count block ≤ MAX_DELAY
  pub turns : (m n : ℕ) → block_turns format 1 block m n ≡ tap_count block * lane_turns format (n - m)
  pub no_group : IfSome (group_of block) (λ g. 0 < g.0)
