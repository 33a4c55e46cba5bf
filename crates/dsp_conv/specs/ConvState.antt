-- What a contract sees of a convolution.
use Rattle.std.specs.Prelude.{ℕ, ◌-◌, ◌+◌, ◌≡◌, ◌<◌, ◌≤◌, ◌^◌, ℤ, pos, ◌≤ℤ◌, Bool, false, List, [], ◌∷◌, ◌++◌, length}
use Rattle.std.specs.Prelude.{take, drop, replicate, reverse, All, FitsSigned}
use Rattle.dsp_defs.specs.Formats.{word}
use Rattle.dsp_defs.specs.Signal.{sample}
use Rattle.dsp_defs.specs.Streaming.{Continues, last_of, rows}
use Rattle.dsp_defs.specs.Shape.{whole_frames, live_frames}
use Rattle.dsp_defs.specs.Kept.{kept_of_channel}
use Rattle.dsp_unit.specs.Filter.{FilterState, of_channel, of_whole_channel}
use Rattle.dsp_window.specs.Rolling.{Rolling}
use Rattle.dsp_defs.specs.declared.limits.TheConstants.{MAX_TAPS}
use Rattle.dsp_defs.specs.declared.format.Fmt.{Fmt}
use Rattle.dsp_conv.specs.declared.extent.Extent.{Extent}
use Rattle.dsp_conv.specs.Extent.{block_of, place_in, greatest_place, start_in, given_in, zeros_behind}

-- which values it gives, its taps as they were given, the last numbers that it took, its place, the values that it
-- still
-- has to give once the signal ends, the greatest length of a block, and whether `finish` was called
pub record ConvState : Type 0 where
  pub extent : Extent
  pub taps : List ℤ
  pub past : List ℤ
  pub place : ℕ
  pub tail : List ℤ
  pub block : ℕ
  pub ended : Bool

-- a convolution that has taken nothing
abbrev pub new_conv : Extent → List ℤ → ℕ → ConvState
new_conv extent taps block = record {
  extent = extent;
  taps = taps;
  past = replicate (length taps - 1) (pos 0);
  place = 0;
  tail = [];
  block = block;
  ended = false;
}

-- the kept numbers: the last samples, the oldest first, and then the place
abbrev pub kept : ConvState → List ℤ
kept c = c.past ++ pos c.place ∷ []

-- what is kept of a signal x
abbrev pub kept_of : Fmt → Extent → List ℤ → List ℤ → List ℤ
kept_of format extent taps x = kept_of_channel format (block_of extent taps) x

-- what it gives of a signal that may go on
abbrev pub live_of : Fmt → ConvState → List ℤ → List ℤ
live_of format c = of_channel format (block_of c.extent c.taps)

-- and how many values of n samples
abbrev pub live_count : ConvState → ℕ → ℕ
live_count c n = live_frames (block_of c.extent c.taps) n

-- the values that zeros behind the past make, as far as they are given; past the end of a window the samples are 0
abbrev pub tail_behind : Fmt → Extent → List ℤ → List ℤ → ℕ → List ℤ
tail_behind format extent taps past place =
    let zeros = zeros_behind place (length taps) in
    rows format (reverse taps) (drop (start_in extent place zeros) past) (given_in extent place zeros)

-- the convolution has taken the signal x, and no `finish` was called: it keeps the last T-1 numbers of x, with zeros
-- before,
-- and the place of x; and its tail is what the whole convolution of x has behind what it gave so far
pub record StandsFor (format : Fmt) (c : ConvState) (x : List ℤ) : Type 0 where
  pub running : c.ended ≡ false
  pub past_is : c.past ≡ last_of (length c.taps - 1) x
  pub place_is : c.place ≡ place_in c.extent (length x)
  pub tail_is : of_whole_channel format (block_of c.extent c.taps) x ≡ live_of format c x ++ c.tail

-- it counts n samples, whatever its other numbers are, and its tail has as many values as the whole convolution of n
-- samples has behind them
pub record CountsFor (c : ConvState) (n : ℕ) : Type 0 where
  pub running : c.ended ≡ false
  pub place_is : c.place ≡ place_in c.extent n
  pub whole_is : whole_frames (block_of c.extent c.taps) n ≡ live_count c n + length c.tail

-- a call takes the m samples of `block` and gives `given` values, `out`: it gives the next ones of each signal that the
-- convolution stands for, and then stands for the longer one; its taps, its blocks and what it gives stay
pub record TakesIn (format : Fmt) (old new : ConvState) (block out : List ℤ) (m given : ℕ) : Type 0 where
  pub count : (n : ℕ) → CountsFor old n → live_count old (n + m) ≡ live_count old n + given
  pub values : (x : List ℤ) → StandsFor format old x → Continues (live_of format old) x block out
  pub stands : (x : List ℤ) → StandsFor format old x → StandsFor format new (x ++ block)
  pub counts : (n : ℕ) → CountsFor old n → CountsFor new (n + m)
  pub same : new ≡ record old { past = new.past; place = new.place; tail = new.tail }
  pub kept : length new.past ≡ length old.past

-- such numbers can be the kept ones: as many, each sample in the range of the format, and a place last
pub record Fits (format : Fmt) (c : ConvState) (numbers : List ℤ) : Type 0 where
  pub count : length numbers ≡ length c.past + 1
  pub samples : All (FitsSigned (word format)) (take (length c.past) numbers)
  pub low : pos 0 ≤ℤ sample numbers (length c.past)
  pub high : sample numbers (length c.past) ≤ℤ pos (greatest_place c.extent)

-- what a unit sees of the convolution of one of its channels
abbrev pub conv_channel : Fmt → ConvState → FilterState
conv_channel format c = record {
  block = block_of c.extent c.taps;
  format = format;
  capacity = c.block;
  kept = kept c;
  tail = c.tail;
  ended = c.ended;
}

-- what stands between calls, for so many taps and such blocks: the window's past, the zeros that can be pushed, what
-- is left of the tail, and the place
pub record IsSound (taps block : ℕ) (window : Rolling) (zeros : List ℤ) (skip left place greatest : ℕ) : Type 0 where
  pub past : window.past + 1 ≡ taps
  pub few : taps ≤ MAX_TAPS
  pub some : 1 ≤ block
  pub room : block ≤ window.room
  pub room_behind : taps ≤ window.room + 1
  pub filled : window.past ≤ length window.samples
  pub zeros_are : zeros ≡ replicate window.past (pos 0)
  pub left_within : skip + left ≤ window.past
  pub place_within : place ≤ greatest
  pub place_fits : place < 2 ^ 63
