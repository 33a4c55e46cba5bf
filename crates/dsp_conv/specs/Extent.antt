-- Which values of a full convolution are given.
use Rattle.std.specs.Prelude.{ℕ, zero, suc, ◌+◌, ◌-◌, min, ℤ, List}
use Rattle.dsp_defs.specs.Sums.{full_length}
use Rattle.dsp_defs.specs.Kept.{flag}
use Rattle.dsp_conv.specs.declared.extent.Extent.{Extent}
use Rattle.dsp_conv.specs.declared.extent.Extent.TheVariants.{Full, Within}
use Rattle.dsp_defs.specs.declared.script.Block.{Block}

-- the block that gives them
abbrev pub block_of : Extent → List ℤ → Block
block_of Full taps = Block.Conv taps
block_of (Within first count) taps = Block.ConvPartial first count taps

-- the index of the first value
abbrev pub first_of : Extent → ℕ
first_of Full = 0
first_of (Within first count) = first

-- the end of those that n samples make while the signal goes on
abbrev pub live_end : Extent → ℕ → ℕ
live_end Full n = n
live_end (Within first count) n = min n (first + count)

-- and of those of a whole signal of n samples, with t taps
abbrev pub whole_end : Extent → ℕ → ℕ → ℕ
whole_end Full n t = full_length n t
whole_end (Within first count) n t = min (first + count) (full_length n t)

-- ---- the place of a stream

-- all that counts of the number of samples: whether there was one, or how many there were as long as values are to come
abbrev pub place_in : Extent → ℕ → ℕ
place_in Full n = flag n
place_in (Within first count) n = min n (first + count)

-- the greatest place
abbrev pub greatest_place : Extent → ℕ
greatest_place Full = 1
greatest_place (Within first count) = first + count

-- the place behind `more` samples
abbrev pub place_after : Extent → ℕ → ℕ → ℕ
place_after Full place more = flag (place + more)
place_after (Within first count) place more = min (place + more) (first + count)

-- of `more` samples those whose values are given: from this one on
abbrev pub start_in : Extent → ℕ → ℕ → ℕ
start_in Full place more = 0
start_in (Within first count) place more = min more (first - place)

-- and up to this one
abbrev pub stop_in : Extent → ℕ → ℕ → ℕ
stop_in Full place more = more
stop_in (Within first count) place more = min more (first + count - place)

-- how many
abbrev pub given_in : Extent → ℕ → ℕ → ℕ
given_in extent place more = stop_in extent place more - start_in extent place more

-- the zeros behind the last sample that make values, with t taps: none where no sample came
abbrev pub zeros_behind : ℕ → ℕ → ℕ
zeros_behind zero t = 0
zeros_behind (suc place) t = t - 1
