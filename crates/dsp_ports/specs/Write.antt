-- What a write of a whole piece offers to its port: nothing but all that is left, again and again, and never an empty
-- piece.
use Rattle.std.specs.Prelude.{◌≡◌, ◌⊎◌, ℕ, ◌+◌, ◌-◌, ◌<◌, List, length}
use Rattle.dsp_ports.specs.Ports.{SinkState, Took}

-- writes of all that was left of a piece of so many bytes led from one state of the port to another, and so many
-- bytes were
-- accepted, some by each
pub data Offered {S : Type 0} (Writes : S → ℕ → S → Type 0) (want : ℕ) (start : S) : ℕ → S → Type 0 where
  Begun : Offered Writes want start 0 start
  Write : (came count : ℕ) (before after : S) → Offered Writes want start came before → came < want
      → Writes before (want - came) after → 0 < count → Offered Writes want start (came + count) after

-- such writes were made, the last of which may have failed
pub record OffersAll {S : Type 0} (Writes : S → ℕ → S → Type 0) (want : ℕ) (old new : S) : Type 0 where
  pub came : ℕ
  pub writing : S
  pub offered : Offered Writes want old came writing
  pub last : (new ≡ writing) ⊎ ((came < want) × Writes writing (want - came) new)

-- a piece that is not empty was accepted whole, as by one write of it
pub record Accepted {S : Type 0} (Writes : S → ℕ → S → Type 0) (before after : SinkState) (old new : S)
    (piece : List ℕ) : Type 0 where
  pub some : 0 < length piece
  pub took : Took before after piece
  pub no_fault : after.faults ≡ before.faults
  pub writes : Writes old (length piece) new
