-- What a contract sees of an interpolator.
use Rattle.std.specs.Prelude.{ℕ, ◌-◌, ◌+◌, ◌*◌, ◌/◌, ◌%◌, ◌≡◌, ◌≤◌, ℤ, pos, ◌*ℤ◌, Bool, false, List, [], length, max}
use Rattle.std.specs.Prelude.{replicate, Option}
use Rattle.std.specs.Option.{option_or}
use Rattle.dsp_defs.specs.Formats.{close}
use Rattle.dsp_defs.specs.Signal.{sample, values, sum_below}
use Rattle.dsp_defs.specs.Streaming.{last_of}
use Rattle.dsp_unit.specs.Filter.{FilterState}
use Rattle.dsp_window.specs.Rolling.{Rolling}
use Rattle.dsp_filter.specs.Making.{block_fault, multiple_fault}
use Rattle.dsp_rate.specs.DecimateState.{factor_fault}
use Rattle.dsp_defs.specs.declared.format.Fmt.{Fmt}
use Rattle.dsp_defs.specs.declared.limits.TheConstants.{MAX_SAMPLES, MAX_TAPS}
use Rattle.dsp_defs.specs.declared.script.Block.TheVariants as Block
use Rattle.dsp_defs.specs.declared.fault.MakeFault.{MakeFault}

-- its factor, its taps as they were given, the last numbers that it took, the greatest length of a block, and whether
-- `finish` was called
pub record InterpolateState : Type 0 where
  pub factor : ℕ
  pub taps : List ℤ
  pub past : List ℤ
  pub block : ℕ
  pub ended : Bool

-- how many numbers an interpolator keeps: one less than a phase has taps
abbrev pub past_length : ℕ → ℕ → ℕ
past_length factor taps = taps / factor - 1

-- an interpolator that has taken nothing
abbrev pub new_interpolate : ℕ → List ℤ → ℕ → InterpolateState
new_interpolate factor taps block = record {
  factor = factor;
  taps = taps;
  past = replicate (past_length factor (length taps)) (pos 0);
  block = block;
  ended = false;
}

-- the interpolator has taken the signal x: it keeps the last T/L - 1 numbers of it, with zeros before
abbrev pub StandsFor : InterpolateState → List ℤ → Type 0
StandsFor f x = f.past ≡ last_of (past_length f.factor (length f.taps)) x

-- what a unit sees of the interpolator of one of its channels
abbrev pub interpolate_channel : Fmt → InterpolateState → FilterState
interpolate_channel format f = record {
  block = Block.Interpolate f.factor f.taps;
  format = format;
  capacity = f.block;
  kept = f.past;
  tail = [];
  ended = f.ended;
}

-- ---- faults

-- the first fault of such a factor, so many taps and such a block
abbrev pub interpolate_fault : ℕ → ℕ → ℕ → Option MakeFault
interpolate_fault factor taps block =
    option_or (multiple_fault MAX_TAPS (max factor 1) taps) (option_or (factor_fault factor) (block_fault block))

-- ---- taps by phases

-- tap k of phase p, behind those of the phases before: it was given at k*L + L-1-p
abbrev pub sorted : ℕ → List ℤ → List ℤ
sorted factor taps =
    let count = length taps / factor in
    values (length taps) (λ i. sample taps (factor - 1 - i / count + i % count * factor))

-- and the other way round
abbrev pub unsorted : ℕ → List ℤ → List ℤ
unsorted factor phases =
    let count = length phases / factor in
    values (length phases) (λ i. sample phases ((factor - 1 - i % factor) * count + i / factor))

-- the values of all phases over a window
abbrev pub phase_rows : Fmt → ℕ → List ℤ → List ℤ → ℕ → List ℤ
phase_rows format factor phases window n =
    let count = length phases / factor in
    values n (λ i. close format (sum_below count (λ j. sample phases (i % factor * count + j) *ℤ sample window
    (i / factor + j))))

-- what an interpolator is made of: phases of equally many taps, and a window that is one shorter than they are
pub record IsPhased (factor : ℕ) (phases : List ℤ) (window : Rolling) : Type 0 where
  pub some : 1 ≤ factor
  pub few : factor ≤ 255
  pub taps : 1 ≤ length phases
  pub limit : length phases ≤ MAX_TAPS
  pub whole : length phases % factor ≡ 0
  pub past : window.past ≡ past_length factor (length phases)
  pub shown : window.past ≤ length window.samples
  pub room : window.room ≤ MAX_SAMPLES
