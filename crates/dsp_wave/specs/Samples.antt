-- What is taken of the samples of a file, block by block, and why a block stopped.
use Rattle.std.specs.Prelude.{◌≡◌, ◌⊎◌, ℕ, ◌+◌, ◌*◌, ◌/◌, ◌<◌, ◌≤◌, List, length, take, Option, Some, None, IfSome}
use Rattle.std.specs.Io.KnownBytes.{IsAtEnd}
use Rattle.dsp_defs.specs.declared.limits.TheConstants.{MAX_INPUT}
use Rattle.dsp_ports.specs.Ports.{SourceState, one_more, Gave}
use Rattle.dsp_wave.specs.declared.samples.Stored.{Stored}
use Rattle.dsp_wave.specs.declared.samples.SampleFault.{SampleFault}
use Rattle.dsp_wave.specs.declared.samples.SampleFault.TheVariants as fault

-- the bytes of the whole frames among so many bytes
abbrev pub in_whole_frames : ℕ → ℕ → ℕ
in_whole_frames frame size = size / frame * frame

-- the bytes at which a header says that there are whole frames of samples, where it declares its samples
abbrev pub declared_bytes : Stored → Option ℕ
declared_bytes stored = elim stored.size [ Some size ↦ Some (in_whole_frames stored.frame size) | None ↦ None ]

-- so many bytes of samples are not more than those declared
abbrev pub InDeclared : Option ℕ → ℕ → Type 0
InDeclared declared count = IfSome declared (λ size. count ≤ size)

-- the samples have ended behind so many bytes of them
abbrev pub AreAll : Option ℕ → ℕ → SourceState → Type 0
AreAll (Some size) count now = count ≡ size
AreAll None count now = IsAtEnd now.left

-- behind `taken` bytes of samples the front of the block came, and all of it unless the samples have ended, or the
-- part of them that ends at `end`
pub record PartRead (stored : Stored) (end taken : ℕ) (block : List ℕ) (count : ℕ) (input now : SourceState) : Type 0
  where
    pub within : count ≤ length block
    pub gave : Gave input now (take count block)
    pub declared : InDeclared (declared_bytes stored) (taken + count)
    pub in_limit : stored.start + taken + count ≤ MAX_INPUT
    pub in_part : taken + count ≤ end
    pub room_left : count < length block → stored.size ≡ None → taken + count < end →
        stored.start + taken + count < MAX_INPUT
    pub ended : count < length block → (taken + count ≡ end) ⊎ AreAll (declared_bytes stored) (taken + count) now
    pub no_fault : now.faults ≡ input.faults
    pub going : (count < length block → taken + count ≡ end) → now.ended ≡ input.ended

-- the same of all samples, which no part ends
pub record BlockRead (stored : Stored) (taken : ℕ) (block : List ℕ) (count : ℕ) (input now : SourceState) : Type 0 where
  pub within : count ≤ length block
  pub gave : Gave input now (take count block)
  pub declared : InDeclared (declared_bytes stored) (taken + count)
  pub in_limit : stored.start + taken + count ≤ MAX_INPUT
  pub room_left : count < length block → stored.size ≡ None → stored.start + taken + count < MAX_INPUT
  pub end : count < length block → AreAll (declared_bytes stored) (taken + count) now
  pub no_fault : now.faults ≡ input.faults
  pub going : length block ≤ count → now.ended ≡ input.ended

-- the samples, and the part of them that ends at `end`, have so many bytes behind the first ones, which may be taken
pub record HasBlock (stored : Stored) (end taken size : ℕ) : Type 0 where
  pub declared : InDeclared (declared_bytes stored) (taken + size)
  pub in_limit : stored.start + taken + size ≤ MAX_INPUT
  pub in_part : taken + size ≤ end

-- why the byte behind so many bytes of samples did not come
abbrev pub IsUnread : SampleFault → Stored → ℕ → SourceState → SourceState → Type 0
IsUnread fault.Failed stored taken input now =
    (now.faults ≡ one_more input.faults) × (stored.start + taken < MAX_INPUT) ×
    IfSome (declared_bytes stored) (λ size. taken < size)
IsUnread fault.LimitReached stored taken input now =
    (stored.start + taken ≡ MAX_INPUT) × (now.faults ≡ input.faults) ×
    IfSome (declared_bytes stored) (λ size. taken < size)
IsUnread (fault.Short declared got offset) stored taken input now =
    (stored.size ≡ Some declared) × (got ≡ taken) × (offset ≡ stored.start + taken) × IsAtEnd now.left ×
    (now.faults ≡ input.faults)
    × (taken < in_whole_frames stored.frame declared)

-- less than a block came, for a cause that speaks of all bytes of samples that were taken
pub record Unread (stored : Stored) (taken size : ℕ) (Cause : ℕ → Type 0) (input now : SourceState) : Type 0 where
  pub bytes : List ℕ
  pub gave : Gave input now bytes
  pub short : length bytes < size
  pub in_limit : stored.start + taken + length bytes ≤ MAX_INPUT
  pub declared : InDeclared (declared_bytes stored) (taken + length bytes)
  pub cause : Cause (taken + length bytes)

-- and the part has more
pub record PartUnread (stored : Stored) (end taken size : ℕ) (Cause : ℕ → Type 0) (input now : SourceState) : Type 0
  where
    pub unread : Unread stored taken size Cause input now
    pub in_part : taken + length unread.bytes < end
