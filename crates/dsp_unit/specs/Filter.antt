-- A filter of one channel: it takes samples, gives its live values, and then its tail.
use Rattle.std.specs.Prelude.{◌≡◌, ℕ, ◌+◌, ◌-◌, ◌*◌, ◌<◌, ◌≤◌, min, ℤ, Bool, true, false, List, [], ◌++◌, map, length}
use Rattle.std.specs.Prelude.{get_or, flat_map, All, Option, Some, None, IfSome}
use Rattle.std.specs.List.{range_with_len}
use Rattle.dsp_defs.specs.Streaming.{Continues}
use Rattle.dsp_defs.specs.Block.{Frame, channel, live_channel, whole_channel, format_after, channels_after}
use Rattle.dsp_defs.specs.Shape.{group_of, whole_frames, live_frames}
use Rattle.dsp_defs.specs.Cost.{live_block_cost, cost_so_far, block_turns}
use Rattle.dsp_defs.specs.Counts.{Counts}
use Rattle.dsp_defs.specs.Kept.{kept_of_channel, kept_numbers, kinds_by, kept_kinds, Each, IsPlace, IsTaken, limit_of}
use Rattle.dsp_defs.specs.Formats.{word}
use Rattle.dsp_defs.specs.Kept.{in_words, kept_measures, place_of}
use Rattle.dsp_unit.specs.Unit.{most_frames}
use Rattle.dsp_defs.specs.declared.format.Fmt.TheVariants.{Q15}
use Rattle.dsp_defs.specs.declared.format.Fmt.{Fmt}
use Rattle.dsp_defs.specs.declared.script.Block.{Block}
use Rattle.dsp_defs.specs.declared.script.Block.TheVariants.{Negate}

-- ---- one channel

-- what a block gives of one channel, if it works on each channel by itself
abbrev pub given_by : Option (List ℤ → List ℤ) → List ℤ → List ℤ
given_by (Some f) = f
given_by None = λ x. x

-- of a channel that may go on
abbrev pub of_channel : Fmt → Block → List ℤ → List ℤ
of_channel format block = given_by (live_channel format block)

-- and of a whole one
abbrev pub of_whole_channel : Fmt → Block → List ℤ → List ℤ
of_whole_channel format block = given_by (whole_channel format block)

-- its block and format, the most samples of a call, the numbers that it keeps, the tail that it still has to give,
-- and whether the tail was begun
pub record FilterState : Type 0 where
  pub block : Block
  pub format : Fmt
  pub capacity : ℕ
  pub kept : List ℤ
  pub tail : List ℤ
  pub ended : Bool

-- the most values of one call
abbrev pub filter_room : FilterState → ℕ
filter_room f = most_frames f.block f.capacity

-- the filter was made in the same way
pub record FilterMadeAs (old new : FilterState) : Type 0 where
  pub block : new.block ≡ old.block
  pub format : new.format ≡ old.format
  pub capacity : new.capacity ≡ old.capacity

-- the filter has taken the samples x, and nothing of its tail was given
pub record FilterStandsFor (f : FilterState) (x : List ℤ) : Type 0 where
  pub running : f.ended ≡ false
  pub keeps : f.kept ≡ kept_of_channel f.format f.block x
  pub tail_follows : of_whole_channel f.format f.block x ≡ of_channel f.format f.block x ++ f.tail

-- the filter is where n samples lead it, whatever their values were
pub record FilterCounts (f : FilterState) (n : ℕ) : Type 0 where
  pub running : f.ended ≡ false
  pub place : Each IsPlace (kinds_by f.format f.block n) f.kept
  pub tail_values : whole_frames f.block n ≡ live_frames f.block n + length f.tail

-- the same where its tail may be begun
pub record FilterTook (f : FilterState) (n : ℕ) : Type 0 where
  pub place : Each IsPlace (kinds_by f.format f.block n) f.kept
  pub tail_within : length f.tail ≤ whole_frames f.block n

-- if its block has a limit, it can take so many samples more
abbrev pub FilterAccepts : FilterState → ℕ → Type 0
FilterAccepts f more = IfSome (limit_of f.block) (λ limit. (n : ℕ) × FilterCounts f n × (n + more ≤ limit))

-- the multiplies of one channel that has so many values left of those of n samples
abbrev pub made_with_left : Fmt → Block → ℕ → ℕ → ℕ
made_with_left format block n left = cost_so_far format 1 block n n (whole_frames block n - left)

-- those of the filter, where it took n samples
abbrev pub filter_made : FilterState → ℕ → ℕ
filter_made f n = made_with_left f.format f.block n (length f.tail)

-- the call took the samples `taken`, and gave the next live values
pub record FilterFeeds (old new : FilterState) (taken given : List ℤ) (before after : Counts) : Type 0 where
  pub made : FilterMadeAs old new
  pub at_most : length given ≤ most_frames old.block (length taken)
  pub values : (x : List ℤ) → FilterStandsFor old x → Continues (of_channel old.format old.block) x taken given
  pub stands : (x : List ℤ) → FilterStandsFor old x → FilterStandsFor new (x ++ taken)
  pub count : (n : ℕ) → FilterCounts old n → live_frames old.block (n + length taken) ≡ live_frames old.block n +
      length given
  pub counts : (n : ℕ) → FilterCounts old n → FilterCounts new (n + length taken)
  pub multiplies : (n : ℕ) → FilterCounts old n → live_block_cost old.format 1 old.block (n + length taken) +
      before.multiplies ≡ live_block_cost old.format 1 old.block n + after.multiplies
  pub turns : (n : ℕ) → FilterCounts old n → after.turns ≤ before.turns + block_turns old.format 1 old.block n
      (n + length taken)

-- the call gave as many values of the tail as there are, and at most as many as one call gives
pub record FilterFinishes (old new : FilterState) (given : List ℤ) (before after : Counts) : Type 0 where
  pub made : FilterMadeAs old new
  pub ended : new.ended ≡ true
  pub tail : old.tail ≡ given ++ new.tail
  pub count : length given ≡ min (length old.tail) (filter_room old)
  pub spent : given ≡ [] → old.tail ≡ []
  pub took : (n : ℕ) → FilterTook old n → FilterTook new n
  pub multiplies : (n : ℕ) → FilterTook old n → filter_made new n + before.multiplies ≡ filter_made old n +
      after.multiplies
  pub turns : (n : ℕ) → FilterTook old n → after.turns + filter_made old n ≤ before.turns + filter_made new n

-- the filter keeps these numbers and no others
pub record FilterRestores (old new : FilterState) (numbers : List ℤ) : Type 0 where
  pub made : FilterMadeAs old new
  pub running : new.ended ≡ false
  pub kept : new.kept ≡ numbers
  pub stands : (x : List ℤ) → numbers ≡ kept_of_channel old.format old.block x → FilterStandsFor new x
  pub counts : (n : ℕ) → Each IsPlace (kinds_by old.format old.block n) numbers → FilterCounts new n

-- a filter of the block that has taken nothing
pub record IsNewFilter (b : Block) (f : Fmt) (n : ℕ) (s : FilterState) : Type 0 where
  pub block : s.block ≡ b
  pub format : s.format ≡ f
  pub capacity : s.capacity ≡ n
  pub stands : FilterStandsFor s []
  pub counts : FilterCounts s 0

-- ---- all channels

-- the block works on each channel by itself, keeps numbers channel after channel, measures nothing, and costs as much
-- on each
pub record IsByChannel (format : Fmt) (block : Block) : Type 0 where
  pub live_is : live_channel format block ≡ Some (of_channel format block)
  pub whole_is : whole_channel format block ≡ Some (of_whole_channel format block)
  pub channels_same : (c : ℕ) → channels_after c block ≡ c
  pub format_same : format_after format block ≡ format
  pub keeps_is : (c : ℕ) (x : List Frame) → kept_numbers format c block x ≡ flat_map
      (λ i. kept_of_channel format block (channel i x)) (range_with_len 0 c)
  pub kinds_are : (c n : ℕ) → kept_kinds format c block n ≡ flat_map (λ (_ : ℕ). kinds_by format block n)
      (range_with_len 0 c)
  pub keeps_place : (x : List ℤ) → Each IsPlace (kinds_by format block (length x)) (kept_of_channel format block x)
  pub no_measures : (c number : ℕ) (kept : List ℤ) → kept_measures format c number block kept ≡ []
  pub live_cost : (c n : ℕ) → live_block_cost format c block n ≡ c * live_block_cost format 1 block n
  pub so_far : (c n taken given : ℕ) → cost_so_far format c block n taken given ≡ c * cost_so_far format 1 block n
      taken given
  pub turns : (c m n : ℕ) → block_turns format c block m n ≡ c * block_turns format 1 block m n

-- ---- filters that give one value for each sample

-- the block has no tail, keeps as many numbers at all times, and makes `price` products for a sample
pub record IsSteady (format : Fmt) (block : Block) (price : ℕ) : Type 0 where
  pub by_channel : IsByChannel format block
  pub taken : (n : ℕ) → IsTaken block n
  pub whole_is_live : (x : List ℤ) → of_whole_channel format block x ≡ of_channel format block x
  pub most_same : (n : ℕ) → most_frames block n ≡ n
  pub live_same : (n : ℕ) → live_frames block n ≡ n
  pub whole_same : (n : ℕ) → whole_frames block n ≡ n
  pub kinds_same : (n : ℕ) → kinds_by format block n ≡ kinds_by format block 0
  pub placed : (numbers : List ℤ) → length numbers ≡ length (kinds_by format block 0) →
      Each IsPlace (kinds_by format block 0) numbers
  pub live_cost : (n : ℕ) → live_block_cost format 1 block n ≡ n * price

-- besides, it works on samples one by one: a turn for each product, and no group or count that begins somewhere
pub record IsStepwise (format : Fmt) (block : Block) (price : ℕ) : Type 0 where
  pub steady : IsSteady format block price
  pub turns : (m n : ℕ) → block_turns format 1 block m n ≡ n * price - m * price
  pub no_place : (n : ℕ) → place_of block n ≡ 0
  pub no_group : IfSome (group_of block) (λ g. 0 < g.0)

-- the block has no tail, keeps `count` samples, and makes `price` products for a sample
pub record IsSampleBlock (format : Fmt) (block : Block) (count price : ℕ) : Type 0 where
  pub by_channel : IsByChannel format block
  pub taken : (n : ℕ) → IsTaken block n
  pub whole_is_live : (x : List ℤ) → of_whole_channel format block x ≡ of_channel format block x
  pub most_same : (n : ℕ) → most_frames block n ≡ n
  pub live_same : (n : ℕ) → live_frames block n ≡ n
  pub whole_same : (n : ℕ) → whole_frames block n ≡ n
  pub kinds_are : (n : ℕ) → kinds_by format block n ≡ in_words (word format) count
  pub live_cost : (n : ℕ) → live_block_cost format 1 block n ≡ n * price

-- the filter of a steady block
abbrev pub steady_filter : Fmt → Block → ℕ → List ℤ → Bool → FilterState
steady_filter format block capacity kept ended = record
    { block = block; format = format; capacity = capacity; kept = kept; tail = []; ended = ended }

-- ---- the filters of a unit

-- the filter of a channel
abbrev pub no_filter : FilterState
no_filter = record { block = Negate; format = Q15; capacity = 0; kept = []; tail = []; ended = false }

abbrev pub filter_at : List FilterState → ℕ → FilterState
filter_at filters c = get_or filters c no_filter

-- the numbers of all filters, one after another
abbrev pub kept_of_all : List FilterState → List ℤ
kept_of_all filters = flat_map (λ (f : FilterState). f.kept) filters

-- their tails, channel by channel
abbrev pub tails_of : List FilterState → List (List ℤ)
tails_of filters = map (λ (f : FilterState). f.tail) filters

-- a filter like the first one, with as many values to give
pub record IsLike (first : FilterState) (most : ℕ) (f : FilterState) : Type 0 where
  pub block : f.block ≡ first.block
  pub format : f.format ≡ first.format
  pub capacity : f.capacity ≡ most
  pub ended : f.ended ≡ first.ended
  pub tail : length f.tail ≡ length first.tail

-- the filters are one for each channel, made alike for such a block, and all are where one number of samples leads them
pub record AreFilters (format : Fmt) (capacity : ℕ) (filters : List FilterState) : Type 0 where
  pub some : 1 ≤ length filters
  pub alike : All (IsLike (filter_at filters 0) capacity) filters
  pub format_is : (filter_at filters 0).format ≡ format
  pub by_channel : IsByChannel format (filter_at filters 0).block
  pub counted : (filter_at filters 0).ended ≡ false → (n : ℕ) × All (λ f. FilterCounts f n) filters
  pub took : (n : ℕ) × All (λ f. FilterTook f n) filters
