-- What a contract sees of a correlation.
use Rattle.std.specs.Prelude.{ℕ, ◌≡◌, ◌≤◌, ℤ, Bool, false, List, [], length, drop}
use Rattle.dsp_defs.specs.Sums.{correlate}
use Rattle.dsp_defs.specs.Cost.{correlation_products}
use Rattle.dsp_defs.specs.Shape.{correlation_length}
use Rattle.dsp_defs.specs.declared.limits.TheConstants.{MAX_GATHERED, MAX_SAMPLES, MAX_TAPS}
use Rattle.dsp_defs.specs.declared.format.Fmt.{Fmt}
use Rattle.dsp_defs.specs.declared.script.Block.TheVariants.{Correlate}
use Rattle.dsp_unit.specs.Filter.{FilterState}

-- its taps as they were given, the samples that came, how many values were given, the most values of a call where a
-- unit
-- calls it, and whether `finish` was called
pub record CorrelateState : Type 0 where
  pub taps : List ℤ
  pub samples : List ℤ
  pub given : ℕ
  pub block : ℕ
  pub ended : Bool

-- a correlation that has taken nothing
abbrev pub new_correlate : List ℤ → CorrelateState
new_correlate taps = record { taps = taps; samples = []; given = 0; block = MAX_SAMPLES; ended = false }

-- the values that are still to be given
abbrev pub tail_of : Fmt → CorrelateState → List ℤ
tail_of format c = drop c.given (correlate format c.taps c.samples)

-- the products of the values that were given
abbrev pub made_of : CorrelateState → ℕ
made_of c = correlation_products (length c.samples) (length c.taps) c.given

-- what a unit sees of the correlation of one of its channels: it keeps its samples, and gives all values as its tail
abbrev pub correlate_channel : Fmt → CorrelateState → FilterState
correlate_channel format c = record {
  block = Correlate c.taps;
  format = format;
  capacity = c.block;
  kept = c.samples;
  tail = tail_of format c;
  ended = c.ended;
}

-- what stands between calls, for so many taps and samples: no more values were given than there are, and none before
-- `finish`
pub record IsGathered (taps samples given block : ℕ) (ended : Bool) : Type 0 where
  pub some : 1 ≤ taps
  pub few : taps ≤ MAX_TAPS
  pub room : 1 ≤ block
  pub held : samples ≤ MAX_GATHERED
  pub within : given ≤ correlation_length samples taps
  pub running : ended ≡ false → given ≡ 0
