-- The blocks of this crate. Each has a measure for each channel, or one in all: a part keeps the numbers of one
-- measure.
use Rattle.std.specs.Prelude.{◌≡◌, ℕ, ◌+◌, ◌*◌, ◌/◌, ◌<◌, ◌≤◌, ℤ, List, [], ◌∷◌, ◌++◌, length}
use Rattle.dsp_defs.specs.declared.limits.TheConstants.{MAX_SAMPLES}
use Rattle.dsp_defs.specs.Block.{Frame, channel}
use Rattle.dsp_defs.specs.Counts.{Counts, Rises}
use Rattle.dsp_defs.specs.Measure.{dot, cmplx_dot_sums}
use Rattle.dsp_defs.specs.declared.format.Fmt.{Fmt}
use Rattle.dsp_defs.specs.declared.script.Block.{Block}
use Rattle.dsp_defs.specs.declared.script.Block.TheVariants.{Power, Dot, CmplxDot, Max, Min}
use Rattle.dsp_defs.specs.Kept.{Each, IsOfKind, IsTaken, kinds_by, kept_kinds, kept_numbers, kept_of_channel, Fits}
use Rattle.dsp_unit.specs.Unit.{frames_in}
use Rattle.dsp_measure.specs.declared.measure_block.MeasureBlock.{MeasureBlock}
use Rattle.dsp_measure.specs.declared.measure_block.MeasureBlock.TheVariants as measure

-- the block whose measure it is
abbrev pub block_of : MeasureBlock → Block
block_of measure.Power = Power
block_of measure.Dot = Dot
block_of measure.CmplxDot = CmplxDot
block_of measure.Max = Max
block_of measure.Min = Min

-- the block is one of this crate's
abbrev pub IsMeasureBlock : Block → Type 0
IsMeasureBlock Power = Unit {0}
IsMeasureBlock Dot = Unit {0}
IsMeasureBlock CmplxDot = Unit {0}
IsMeasureBlock Max = Unit {0}
IsMeasureBlock Min = Unit {0}
IsMeasureBlock _ = ⊥

-- the channels that it measures: at least so many
abbrev pub channels_of : MeasureBlock → ℕ
channels_of measure.Dot = 2
channels_of measure.CmplxDot = 4
channels_of _ = 1

-- how many measures it has of so many channels
abbrev pub parts_of : MeasureBlock → ℕ → ℕ
parts_of measure.Dot channels = 1
parts_of measure.CmplxDot channels = 1
parts_of _ channels = channels

-- how many numbers each of them keeps
abbrev pub size_of : MeasureBlock → ℕ
size_of measure.Power = 1
size_of measure.Dot = 1
size_of measure.CmplxDot = 2
size_of measure.Max = 4
size_of measure.Min = 4

-- the products that each of them makes for a frame
abbrev pub price_of : MeasureBlock → ℕ
price_of measure.Power = 1
price_of measure.Dot = 1
price_of measure.CmplxDot = 4
price_of measure.Max = 0
price_of measure.Min = 0

-- the numbers that one of them keeps of the frames x
abbrev pub part_kept : Fmt → MeasureBlock → ℕ → List Frame → List ℤ
part_kept format measure.Power part x = kept_of_channel format Power (channel part x)
part_kept format measure.Dot part x = dot format (channel 0 x) (channel 1 x) ∷ []
part_kept format measure.CmplxDot part x =
    let sums = cmplx_dot_sums format (channel 0 x) (channel 1 x) (channel 2 x) (channel 3 x) in
    sums.0 ∷ sums.1 ∷ []
part_kept format measure.Max part x = kept_of_channel format Max (channel part x)
part_kept format measure.Min part x = kept_of_channel format Min (channel part x)

-- the numbers are those of some number of frames, after which it can take so many more
abbrev pub CanTake : Fmt → MeasureBlock → ℕ → List ℤ → Type 0
CanTake format m more numbers = (n : ℕ) × Each IsOfKind (kinds_by format (block_of m) n) numbers ×
    IsTaken (block_of m) (n + more)

-- the same of the numbers of all
abbrev pub AllCanTake : Fmt → ℕ → MeasureBlock → ℕ → List ℤ → Type 0
AllCanTake format channels m more numbers = (n : ℕ) ×
    Each IsOfKind (kept_kinds format channels (block_of m) n) numbers × IsTaken (block_of m) (n + more)

-- one of them took the frames of a slice
pub record PartFeeds (format : Fmt) (m : MeasureBlock) (channels part : ℕ) (frames old new : List ℤ) : Type 0 where
  pub stands : (x : List Frame) → old ≡ part_kept format m part x →
      new ≡ part_kept format m part (x ++ frames_in channels frames)
  pub kinds : (n : ℕ) → Each IsOfKind (kinds_by format (block_of m) n) old →
      Each IsOfKind (kinds_by format (block_of m) (n + length frames / channels)) new

-- all of them did
pub record PartsFeed (format : Fmt) (m : MeasureBlock) (channels : ℕ) (frames old new : List ℤ) : Type 0 where
  pub stands : (x : List Frame) → old ≡ kept_numbers format channels (block_of m) x →
      new ≡ kept_numbers format channels (block_of m) (x ++ frames_in channels frames)
  pub kinds : (n : ℕ) → Each IsOfKind (kept_kinds format channels (block_of m) n) old →
      Each IsOfKind (kept_kinds format channels (block_of m) (n + length frames / channels)) new

-- a unit has the channels that its block measures, at most 255, few samples a call, and keeps numbers as its block can
pub record IsWhole (format : Fmt) (m : MeasureBlock) (channels capacity : ℕ) (kept : List ℤ) : Type 0 where
  pub enough : channels_of m ≤ channels
  pub narrow : channels < 256
  pub few : capacity * channels ≤ MAX_SAMPLES
  pub fits : Fits format channels (block_of m) kept

-- a counter rose by the products that each of so many measures makes for n frames
abbrev pub RisesFor : MeasureBlock → ℕ → ℕ → Counts → Counts → Type 0
RisesFor m many n old new = Rises old new (many * (price_of m * n)) (many * (price_of m * n))
