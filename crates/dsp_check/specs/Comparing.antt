-- The bytes of a port against those that are wanted.
use Rattle.std.specs.Prelude.{◌≡◌, ◌≢◌, ◌⊎◌, ℕ, ◌<◌, ◌≤◌, List, [], ◌∷◌, ◌++◌, length, take, Some, slice_get}
use Rattle.std.specs.Io.KnownBytes.{IsAtEnd}
use Rattle.dsp_ports.specs.Ports.{SourceState, one_more, Gave}
use Rattle.dsp_check.specs.declared.comparing.Mismatch.{Mismatch}
use Rattle.dsp_check.specs.declared.comparing.Mismatch.TheVariants.{Differs, Failed}

-- the port had exactly these bytes, and all of them were read
pub record HasAll (wanted : List ℕ) (old new : SourceState) : Type 0 where
  pub gave : Gave old new wanted
  pub end : IsAtEnd new.left
  pub no_fault : new.faults ≡ old.faults

-- behind the bytes before this offset, which are those wanted, stands another byte than there is to be, or none
abbrev pub IsDecided : ℕ → List ℕ → List ℕ → SourceState → Type 0
IsDecided offset wanted seen new =
    ((byte : ℕ) × (seen ≡ take offset wanted ++ byte ∷ []) × (slice_get wanted offset ≢ Some byte))
    ⊎ ((seen ≡ take offset wanted) × (offset < length wanted) × IsAtEnd new.left)

-- why, by all bytes that were read
abbrev pub IsSeen : Mismatch → List ℕ → List ℕ → SourceState → SourceState → Type 0
IsSeen (Differs offset) wanted seen old new = (offset ≤ length wanted) × IsDecided offset wanted seen new ×
    (new.faults ≡ old.faults)
IsSeen Failed wanted seen old new = (seen ≡ take (length seen) wanted) × (new.faults ≡ one_more old.faults)

-- the port gave these bytes, which show that it does not have exactly those wanted, or it failed behind them
pub record Mismatches (fault : Mismatch) (wanted : List ℕ) (old new : SourceState) : Type 0 where
  pub seen : List ℕ
  pub gave : Gave old new seen
  pub cause : IsSeen fault wanted seen old new
