-- What a port gives where its bytes lie.
use Rattle.std.specs.Prelude.{◌≡◌, ℕ, List, length}
use Rattle.dsp_ports.specs.Ports.{SourceState, Gave, asked}

-- a taker has taken the next bytes, so many, as if a read had asked for these and got them
pub record Lent {S T : Type 0} (Reads : S → ℕ → S → Type 0) (Takes : T → List ℕ → T → Type 0)
    (before after : SourceState) (old new : S) (taker later : T) (count : ℕ) : Type 0 where
  pub bytes : List ℕ
  pub long : length bytes ≡ count
  pub gave : Gave (asked before count) after bytes
  pub no_fault : after.faults ≡ before.faults
  pub going : after.ended ≡ before.ended
  pub reads : Reads old count new
  pub takes : Takes taker bytes later
