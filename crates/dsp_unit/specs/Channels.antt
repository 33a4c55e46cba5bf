-- What a unit is and does that has a filter for each channel.
use Rattle.std.specs.Prelude.{◌≡◌, ℕ, ◌+◌, ◌-◌, ◌*◌, ◌/◌, ◌<◌, ◌≤◌, ℤ, false, List, length, take, drop, All}
use Rattle.dsp_defs.specs.Signal.{sample, values}
use Rattle.dsp_defs.specs.Block.{frames_of}
use Rattle.dsp_defs.specs.Cost.{live_block_cost, block_turns}
use Rattle.dsp_defs.specs.Counts.{Counts}
use Rattle.dsp_unit.specs.Unit.{UnitState}
use Rattle.dsp_unit.specs.Filter.{FilterState, FilterCounts, FilterTook, FilterFeeds, FilterFinishes, FilterRestores}
use Rattle.dsp_unit.specs.Filter.{filter_at, made_with_left, kept_of_all, tails_of}
use Rattle.dsp_defs.specs.declared.format.Fmt.{Fmt}

-- the unit of these filters
abbrev pub unit_of_filters : Fmt → ℕ → List FilterState → UnitState
unit_of_filters format capacity filters = record {
  block = (filter_at filters 0).block;
  format = format;
  channels = length filters;
  capacity = capacity;
  banked = false;
  kept = kept_of_all filters;
  tail = frames_of (tails_of filters);
  ended = (filter_at filters 0).ended;
}

-- the samples of a channel in the first `count` frames of a slice
abbrev pub samples_in : ℕ → ℕ → List ℤ → ℕ → List ℤ
samples_in channels count samples c = values count (λ n. sample samples (n * channels + c))

-- the numbers of a channel, where each has so many
abbrev pub numbers_in : ℕ → List ℤ → ℕ → List ℤ
numbers_in size numbers c = take size (drop (c * size) numbers)

-- each filter took its channel of `count` frames and gave its channel of `many`
pub record AreFed (olds news : List FilterState) (count : ℕ) (taken : List ℤ) (many : ℕ) (given : List ℤ)
    (before after : Counts) : Type 0 where
  pub size : length news ≡ length olds
  pub each : (c : ℕ) → c < length olds → (start stop : Counts) ×
      FilterFeeds (filter_at olds c) (filter_at news c) (samples_in (length olds) count taken c)
      (samples_in (length olds) many given c) start stop
  pub multiplies : (n : ℕ) → All (λ f. FilterCounts f n) olds →
      length olds * live_block_cost (filter_at olds 0).format 1 (filter_at olds 0).block (n + count) + before.multiplies
      ≡ length olds * live_block_cost (filter_at olds 0).format 1 (filter_at olds 0).block n + after.multiplies
  pub turns : (n : ℕ) → All (λ f. FilterCounts f n) olds →
      after.turns ≤ before.turns + length olds * block_turns (filter_at olds 0).format 1 (filter_at olds 0).block n
      (n + count)

-- the multiplies that each of the filters has made once `many` values of its tail are given
abbrev pub made_now : List FilterState → ℕ → ℕ → ℕ
made_now filters many n = made_with_left (filter_at filters 0).format (filter_at filters 0).block n
    (length (filter_at filters 0).tail - many)

-- each filter gave its channel of the next `many` frames of the tail
pub record AreFinished (olds news : List FilterState) (many : ℕ) (given : List ℤ) (before after : Counts) : Type 0 where
  pub size : length news ≡ length olds
  pub each : (c : ℕ) → c < length olds → (start stop : Counts) ×
      FilterFinishes (filter_at olds c) (filter_at news c) (samples_in (length olds) many given c) start stop
  pub multiplies : (n : ℕ) → All (λ f. FilterTook f n) olds →
      length olds * made_now olds many n + before.multiplies ≡ length olds * made_now olds 0 n + after.multiplies
  pub turns : (n : ℕ) → All (λ f. FilterTook f n) olds →
      after.turns + length olds * made_now olds 0 n ≤ before.turns + length olds * made_now olds many n

-- each filter keeps its channel's numbers
pub record AreRestored (olds news : List FilterState) (numbers : List ℤ) : Type 0 where
  pub size : length news ≡ length olds
  pub each : (c : ℕ) → c < length olds → FilterRestores (filter_at olds c) (filter_at news c)
      (numbers_in (length numbers / length olds) numbers c)
