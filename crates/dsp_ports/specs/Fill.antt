-- What is taken of an input for one block.
use Rattle.std.specs.Prelude.{◌≡◌, ℕ, ◌+◌, ◌-◌, ◌<◌, ◌≤◌, ◌⊎◌, List, length, take}
use Rattle.std.specs.Io.KnownBytes.{IsAtEnd}
use Rattle.dsp_ports.specs.Ports.{SourceState, one_more, Gave}
use Rattle.dsp_ports.specs.declared.filling.FillFault.{FillFault}
use Rattle.dsp_ports.specs.declared.filling.FillFault.TheVariants.{Failed, LimitReached}

-- the front of the block came from the input, and all of the block unless the input has ended
pub record Filled (old new : SourceState) (block : List ℕ) (room count : ℕ) : Type 0 where
  pub within : count ≤ length block
  pub in_room : count ≤ room
  pub gave : Gave old new (take count block)
  pub end : count < length block → IsAtEnd new.left
  -- the end is seen by a read that asks for more
  pub room_left : count < length block → count < room
  pub no_fault : new.faults ≡ old.faults
  pub going : length block ≤ count → new.ended ≡ old.ended

-- the source has failed, or all the room was taken
abbrev pub HasFillCause : FillFault → SourceState → SourceState → ℕ → ℕ → Type 0
HasFillCause Failed old new count room = (new.faults ≡ one_more old.faults) × (count < room)
HasFillCause LimitReached old new count room = (new.faults ≡ old.faults) × (count ≡ room)

-- less than a block came
pub record Unfilled (old new : SourceState) (size room : ℕ) (fault : FillFault) : Type 0 where
  pub bytes : List ℕ
  pub gave : Gave old new bytes
  pub short : length bytes < size
  pub in_room : length bytes ≤ room
  pub cause : HasFillCause fault old new (length bytes) room

-- so many bytes came and were forgotten, and all that were asked for unless the input has ended
pub record Skipped (old new : SourceState) (count room came : ℕ) : Type 0 where
  pub bytes : List ℕ
  pub long : length bytes ≡ came
  pub within : came ≤ count
  pub in_room : came ≤ room
  pub gave : Gave old new bytes
  pub end : came < count → IsAtEnd new.left
  pub no_fault : new.faults ≡ old.faults
  pub going : count ≤ came → new.ended ≡ old.ended

-- so many bytes came by reads of a port, each of which asked for all that was still missing and gave something
pub data Asked {S : Type 0} (Reads : S → ℕ → S → Type 0) (taken : S → ℕ) (want : ℕ) (start : S) : ℕ → S → Type 0 where
  Begun : Asked Reads taken want start 0 start
  Read : (came count : ℕ) (before after : S) → Asked Reads taken want start came before →
      Reads before (want - came) after
      → 0 < count → taken after ≡ taken before + count → Asked Reads taken want start (came + count) after

-- all that was missing was asked for at each read, where something was, and none came behind a read that gave nothing
pub record AsksForAll {S : Type 0} (Reads : S → ℕ → S → Type 0) (taken : S → ℕ) (want : ℕ) (old new : S) : Type 0 where
  pub came : ℕ
  pub filling : S
  pub asked : Asked Reads taken want old came filling
  pub last : (new ≡ filling) ⊎ ((came < want) × Reads filling (want - came) new × (taken new ≡ taken filling))
