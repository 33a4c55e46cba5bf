-- A bank of biquads: one cascade for each channel of a frame, all with the same numbers.
use Rattle.std.specs.Prelude.{ℕ, ◌≡◌, ◌≤◌, ◌*◌, ℤ, pos, Bool, true, List, [], length, replicate}
use Rattle.dsp_defs.specs.Cost.{section_count}
use Rattle.dsp_defs.specs.Signal.{values}
use Rattle.dsp_defs.specs.declared.format.Fmt.{Fmt}
use Rattle.dsp_defs.specs.declared.script.Block.{Block}
use Rattle.dsp_defs.specs.declared.script.Block.TheVariants.{Biquad}
use Rattle.dsp_unit.specs.Channels.{numbers_in}
use Rattle.dsp_unit.specs.Filter.{FilterState, steady_filter}
use Rattle.dsp_unit.specs.Unit.{UnitState, StandsFor, CountsFrames, most_kept}

-- what a contract sees of a bank: what it was made of, the most frames of a call, and the numbers that it keeps,
-- channel after
-- channel and in a channel section after section: the last two samples and the last two outputs, the newest first
pub record BankState : Type 0 where
  pub post_shift : ℕ
  pub coefficients : List ℤ
  pub channels : ℕ
  pub capacity : ℕ
  pub kept : List ℤ

-- its sections
abbrev pub sections_of : Fmt → BankState → ℕ
sections_of format b = section_count format b.coefficients

-- the block of each channel
abbrev pub bank_block : BankState → Block
bank_block b = Biquad b.post_shift b.coefficients

-- the filters that it stands for, one for each channel, each with its own numbers
abbrev pub bank_filters : Fmt → Bool → BankState → List FilterState
bank_filters format ended b =
    values b.channels (λ i. steady_filter format (bank_block b) b.capacity (numbers_in (4 * sections_of format b)
    b.kept i) ended)

-- a bank that has taken nothing: it keeps zeros
pub record IsNewBank (format : Fmt) (post_shift : ℕ) (coefficients : List ℤ) (channels capacity : ℕ)
    (b : BankState) : Type 0 where
  pub post_shift_is : b.post_shift ≡ post_shift
  pub coefficients_are : b.coefficients ≡ coefficients
  pub channels_are : b.channels ≡ channels
  pub capacity_is : b.capacity ≡ capacity
  pub zeros : b.kept ≡ replicate (channels * section_count format coefficients * 4) (pos 0)

-- ---- units

-- the unit that a bank is
abbrev pub unit_of_bank : Fmt → Bool → BankState → UnitState
unit_of_bank format ended b = record {
  block = bank_block b;
  format = format;
  channels = b.channels;
  capacity = b.capacity;
  banked = true;
  kept = b.kept;
  tail = [];
  ended = ended;
}

-- it has channels, and keeps four numbers for each section of each
pub record IsWholeBank (format : Fmt) (b : BankState) : Type 0 where
  pub some : 1 ≤ b.channels
  pub size : length b.kept ≡ b.channels * (4 * sections_of format b)
  pub few : length b.kept ≤ most_kept

-- a unit of the block at its place, as a bank, that has taken nothing
pub record IsNewBanked (b : Block) (f : Fmt) (c n : ℕ) (u : UnitState) : Type 0 where
  pub block : u.block ≡ b
  pub format : u.format ≡ f
  pub channels : u.channels ≡ c
  pub capacity : u.capacity ≡ n
  pub banked : u.banked ≡ true
  pub stands : StandsFor u []
  pub counts : CountsFrames u 0
