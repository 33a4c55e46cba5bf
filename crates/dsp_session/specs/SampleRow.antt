-- Samples that are read from bytes.
use Rattle.std.specs.Prelude.{◌≡◌, ℕ, ℤ, ◌*◌, ◌/◌, List, length, take, drop, All}
use Rattle.dsp_defs.specs.Bytes.{IsValue, sample_of, width}
use Rattle.dsp_defs.specs.Signal.{values}
use Rattle.dsp_defs.specs.declared.format.Coding.{Coding}

-- the coding of the bytes, and the samples
pub record SampleRow : Type 0 where
  pub coding : Coding
  pub row : List ℤ

-- how many samples some bytes have
abbrev pub samples_in : Coding → List ℕ → ℕ
samples_in coding bytes = length bytes / width coding

-- the samples of the bytes stand at the front
pub record HasRead (old : SampleRow) (bytes : List ℕ) (new : SampleRow) : Type 0 where
  pub coding : new.coding ≡ old.coding
  pub long : length new.row ≡ length old.row
  pub samples : take (samples_in old.coding bytes) new.row ≡ values (samples_in old.coding bytes) (λ i.
      sample_of old.coding (take (width old.coding) (drop (i * width old.coding) bytes)))
  pub fits : All (IsValue old.coding) (take (samples_in old.coding bytes) new.row)
