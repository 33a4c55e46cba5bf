-- A block whose filter keeps an open group: a channel is cut into groups, and each whole group becomes its result.
use Rattle.std.specs.Prelude.{◌≡◌, ℕ, ◌-◌, ◌*◌, ◌/◌, ◌%◌, ◌<◌, ◌≤◌, ℤ, List, length, Some}
use Rattle.std.specs.Int.{div_ceil}
use Rattle.dsp_defs.specs.declared.limits.TheConstants.{MAX_MATRIX_SIDE}
use Rattle.dsp_defs.specs.Formats.{word}
use Rattle.dsp_defs.specs.Signal.{values}
use Rattle.dsp_defs.specs.Matrix.{each_group}
use Rattle.dsp_defs.specs.Kept.{open_group, IsTaken, in_words, kept_of_channel, kinds_by, place_of}
use Rattle.dsp_defs.specs.Shape.{group_of, live_frames, whole_frames}
use Rattle.dsp_defs.specs.Cost.{live_block_cost, block_turns}
use Rattle.dsp_defs.specs.Counts.{Counts}
use Rattle.dsp_lanes.specs.Turns.{RisesWithin}
use Rattle.dsp_unit.specs.Unit.{most_frames}
use Rattle.dsp_unit.specs.Filter.{IsByChannel, of_channel, of_whole_channel}
use Rattle.dsp_defs.specs.declared.format.Fmt.{Fmt}
use Rattle.dsp_defs.specs.declared.script.Block.{Block}

-- the samples of a group taken and given, what a whole group becomes by its place, and the products for that
pub record Group : Type 0 where
  pub taken : ℕ
  pub given : ℕ
  pub result : List ℤ → ℕ → ℤ
  pub products : ℕ

-- how many values the whole groups of n samples become
abbrev pub given_count : Group → ℕ → ℕ
given_count g n = n / g.taken * g.given

-- and how many products these take
abbrev pub product_count : Group → ℕ → ℕ
product_count g n = n / g.taken * g.products

-- a counter rises by just these products, and by at most a turn for each
abbrev pub RisesJust : Counts → Counts → ℕ → Type 0
RisesJust before after products = RisesWithin before after products products

-- what a whole group a becomes
abbrev pub given_group : Group → List ℤ → List ℤ
given_group g a = values g.given (g.result a)

-- what the whole groups of x become
abbrev pub given_groups : Group → List ℤ → List ℤ
given_groups g x = each_group g.taken g.given g.result x

-- what is left of x behind its whole groups
abbrev pub left_open : Group → List ℤ → List ℤ
left_open g x = open_group g.taken x

-- the filter of the block works so on each channel: it keeps the open group, has no tail, and makes as many products
-- for each whole group
pub record IsGrouped (format : Fmt) (block : Block) (g : Group) : Type 0 where
  pub some : 0 < g.taken
  pub few_taken : g.taken ≤ MAX_MATRIX_SIDE * MAX_MATRIX_SIDE
  pub few_given : g.given ≤ MAX_MATRIX_SIDE * MAX_MATRIX_SIDE
  pub by_channel : IsByChannel format block
  pub taken : (n : ℕ) → IsTaken block n
  pub gives : (x : List ℤ) → of_channel format block x ≡ given_groups g x
  pub whole_is_live : (x : List ℤ) → of_whole_channel format block x ≡ of_channel format block x
  pub keeps : (x : List ℤ) → kept_of_channel format block x ≡ left_open g x
  pub kinds : (n : ℕ) → kinds_by format block n ≡ in_words (word format) (n % g.taken)
  pub place : (n : ℕ) → place_of block n ≡ n % g.taken
  pub group : group_of block ≡ Some (g.taken, g.given)
  pub most : (n : ℕ) → most_frames block n ≡ div_ceil n g.taken * g.given
  pub live : (n : ℕ) → live_frames block n ≡ n / g.taken * g.given
  pub whole : (n : ℕ) → whole_frames block n ≡ n / g.taken * g.given
  pub live_cost : (n : ℕ) → live_block_cost format 1 block n ≡ n / g.taken * g.products
  pub turns : (m n : ℕ) → block_turns format 1 block m n ≡ live_block_cost format 1 block n - live_block_cost format 1
      block m

-- the samples of an open group, and of a whole one
pub record OpenState : Type 0 where
  pub size : ℕ
  pub numbers : List ℤ

-- it is one of a block's, and not whole
abbrev pub IsBegun : Group → OpenState → Type 0
IsBegun g o = (o.size ≡ g.taken) × (length o.numbers < o.size)
