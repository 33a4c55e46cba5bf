-- What a contract sees of a decimator.
use Rattle.std.specs.Prelude.{ℕ, ◌-◌, ◌+◌, ◌*◌, ◌%◌, ◌≡◌, ℤ, pos, ◌*ℤ◌, ◌≤ℤ◌, ◌<ℤ◌, Bool, false, List, [], ◌∷◌, ◌++◌}
use Rattle.std.specs.Prelude.{length, take, replicate, All, FitsSigned, Option, Some, None, nat_eq, if◌then◌else◌}
use Rattle.std.specs.Option.{option_or}
use Rattle.dsp_defs.specs.Formats.{word, close}
use Rattle.dsp_defs.specs.Signal.{sample, values, sum_below}
use Rattle.dsp_defs.specs.Streaming.{last_of}
use Rattle.dsp_unit.specs.Filter.{FilterState}
use Rattle.dsp_defs.specs.Kept.{kept_of_channel}
use Rattle.dsp_filter.specs.Making.{block_fault, taps_fault}
use Rattle.dsp_defs.specs.declared.format.Fmt.{Fmt}
use Rattle.dsp_defs.specs.declared.script.Block.TheVariants as Block
use Rattle.dsp_defs.specs.declared.fault.MakeFault.{MakeFault}
use Rattle.dsp_defs.specs.declared.fault.MakeFault.TheVariants.{Range}

-- its factor, its taps as they were given, the last numbers that it took, how many samples its open group has,
-- the greatest length of a block, and whether `finish` was called
pub record DecimateState : Type 0 where
  pub factor : ℕ
  pub taps : List ℤ
  pub past : List ℤ
  pub phase : ℕ
  pub block : ℕ
  pub ended : Bool

-- how many numbers a decimator keeps before the phase: those that the next value can need
abbrev pub past_length : ℕ → ℕ → ℕ
past_length factor taps = taps + factor - 2

-- a decimator that has taken nothing
abbrev pub new_decimate : ℕ → List ℤ → ℕ → DecimateState
new_decimate factor taps block = record {
  factor = factor;
  taps = taps;
  past = replicate (past_length factor (length taps)) (pos 0);
  phase = 0;
  block = block;
  ended = false;
}

-- the kept numbers: the last samples, the oldest first, and then the phase
abbrev pub kept : DecimateState → List ℤ
kept d = d.past ++ pos d.phase ∷ []

-- what is kept of a signal x
abbrev pub kept_of : Fmt → ℕ → List ℤ → List ℤ → List ℤ
kept_of format factor taps x = kept_of_channel format (Block.Decimate factor taps) x

-- the decimator has taken the signal x: it keeps the last T+M-2 numbers of it, with zeros before, and its length
-- modulo M
pub record StandsFor (d : DecimateState) (x : List ℤ) : Type 0 where
  pub past_is : d.past ≡ last_of (past_length d.factor (length d.taps)) x
  pub phase_is : d.phase ≡ length x % d.factor

-- its phase is that of n samples, whatever its other numbers are
abbrev pub CountsFor : DecimateState → ℕ → Type 0
CountsFor d n = d.phase ≡ n % d.factor

-- such numbers can be the kept ones: as many, each sample in the range of the format, and a phase below the factor
pub record Fits (format : Fmt) (d : DecimateState) (numbers : List ℤ) : Type 0 where
  pub count : length numbers ≡ length d.past + 1
  pub samples : All (FitsSigned (word format)) (take (length d.past) numbers)
  pub low : pos 0 ≤ℤ sample numbers (length d.past)
  pub high : sample numbers (length d.past) <ℤ pos d.factor

-- what a unit sees of the decimator of one of its channels
abbrev pub decimate_channel : Fmt → DecimateState → FilterState
decimate_channel format d = record {
  block = Block.Decimate d.factor d.taps;
  format = format;
  capacity = d.block;
  kept = kept d;
  tail = [];
  ended = d.ended;
}

-- ---- faults

-- the fault of such a factor
abbrev pub factor_fault : ℕ → Option MakeFault
factor_fault factor = if nat_eq factor 0 then Some (Range (pos 0)) else None

-- the first fault of such a factor, so many taps and such a block
abbrev pub decimate_fault : ℕ → ℕ → ℕ → Option MakeFault
decimate_fault factor taps block = option_or (taps_fault taps) (option_or (factor_fault factor) (block_fault block))

-- ---- values

-- the values over a window, each with its first sample `step` places after that of the one before
abbrev pub strided_rows : Fmt → List ℤ → List ℤ → ℕ → ℕ → ℕ → List ℤ
strided_rows format taps window first step n =
    values n (λ i. close format (sum_below (length taps) (λ j. sample taps j *ℤ sample window (first + i * step + j))))
