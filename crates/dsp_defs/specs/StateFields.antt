-- What is at fault in bytes that are no state, and where. A field is a place in the bytes, and the faults come in the
-- order of the fields.
use Rattle.std.specs.Prelude.{◌≡◌, ◌≢◌, ℕ, ◌+◌, ◌*◌, ◌<◌, ◌≤◌, ℤ, List, length, take, drop, codes}
use Rattle.dsp_defs.specs.Canon.{canon}
use Rattle.dsp_defs.specs.KeptOfScript.{Fits, kept_count}
use Rattle.dsp_defs.specs.Shape.{gathered}
use Rattle.dsp_defs.specs.Signal.{values}
use Rattle.dsp_defs.specs.StateBytes.{CanRun, number_of}
use Rattle.dsp_defs.specs.Wave.{u32_at}
use Rattle.dsp_defs.specs.declared.limits.TheConstants.{MAX_SCRIPT, MAX_GATHERED, MAX_STATE}
use Rattle.dsp_defs.specs.declared.script.Script.{Script}
use Rattle.dsp_defs.specs.declared.state_kind.StateKind.{StateKind}
use Rattle.dsp_defs.specs.declared.state_kind.StateKind.TheVariants.{NotState, Version, Text, Cut, Value, Extra}
use Rattle.dsp_defs.specs.declared.state_kind.StateKind.TheVariants.{TooLong, LongText}

-- ---- where the fields stand

-- the length of the text: size = u32 at 12
abbrev pub text_size : List ℕ → ℕ
text_size bytes = u32_at bytes 12

-- the text behind it: bytes 16 .. 16 + size
abbrev pub text_in : List ℕ → List ℕ
text_in bytes = take (text_size bytes) (drop 16 bytes)

-- where the count of frames stands: 16 + size
abbrev pub frames_place : List ℕ → ℕ
frames_place bytes = 16 + text_size bytes

-- the frames that the blocks have taken: K = u32 at 16 + size
abbrev pub frames_in_state : List ℕ → ℕ
frames_in_state bytes = u32_at bytes (frames_place bytes)

-- where the kept numbers begin: 20 + size
abbrev pub numbers_place : List ℕ → ℕ
numbers_place bytes = 20 + text_size bytes

-- the first `count` of them: number i is the signed 64-bit number at 20 + size + 8 i
abbrev pub numbers_in : List ℕ → ℕ → List ℤ
numbers_in bytes count = values count (λ i. number_of (take 8 (drop (i * 8) (drop (numbers_place bytes) bytes))))

-- as many as the script's blocks keep of the frames
abbrev pub count_in : List ℕ → Script → ℕ
count_in bytes script = kept_count script (frames_in_state bytes)

-- where the last one ends
abbrev pub state_end : List ℕ → Script → ℕ
state_end bytes script = numbers_place bytes + count_in bytes script * 8

-- ---- fields that are good, with all before them

-- the first eight bytes are the mark
pub record HasMark (bytes : List ℕ) : Type 0 where
  pub long : 8 ≤ length bytes
  pub mark : take 8 bytes ≡ codes "DSPSTATE"

-- the mark, and version 1 behind it
pub record HasVersion (bytes : List ℕ) : Type 0 where
  pub before : HasMark bytes
  pub long : 12 ≤ length bytes
  pub one : u32_at bytes 8 ≡ 1

-- these two, and the length of a text that is no longer than a script may be
pub record HasLength (bytes : List ℕ) : Type 0 where
  pub before : HasVersion bytes
  pub long : 16 ≤ length bytes
  pub short : text_size bytes ≤ MAX_SCRIPT

-- the text is the canonical one of a script that can run
pub record HasText (bytes : List ℕ) (script : Script) : Type 0 where
  pub before : HasLength bytes
  pub long : frames_place bytes ≤ length bytes
  pub runs : CanRun script
  pub text : canon script ≡ text_in bytes

-- a correlation gathers no more of the frames than it may
pub record HasFrames (bytes : List ℕ) (script : Script) : Type 0 where
  pub before : HasText bytes script
  pub long : numbers_place bytes ≤ length bytes
  pub few : gathered script.blocks (frames_in_state bytes) ≤ MAX_GATHERED

-- the blocks can keep the numbers of the frames
pub record HasNumbers (bytes : List ℕ) (script : Script) : Type 0 where
  pub before : HasFrames bytes script
  pub long : state_end bytes script ≤ length bytes
  pub fit : Fits script (frames_in_state bytes) (numbers_in bytes (count_in bytes script))

-- ---- faults

-- the bytes end before a field is complete, and all before it is good
pub data IsCut (bytes : List ℕ) : Type 0 where
  InVersion : HasMark bytes → length bytes < 12 → IsCut bytes
  InLength : HasVersion bytes → length bytes < 16 → IsCut bytes
  InText : HasLength bytes → length bytes < frames_place bytes → IsCut bytes
  InFrames : (script : Script) → HasText bytes script → length bytes < numbers_place bytes → IsCut bytes
  InNumbers : (script : Script) → HasFrames bytes script → length bytes < state_end bytes script → IsCut bytes

-- the length of the text is past the limit, or the text is the canonical one of no script that can run
pub data HasNoText (bytes : List ℕ) : Type 0 where
  LongSize : HasVersion bytes → 16 ≤ length bytes → MAX_SCRIPT < text_size bytes → HasNoText bytes
  OtherText : HasLength bytes → frames_place bytes ≤ length bytes → ((script : Script) → HasText bytes script → ⊥) →
      HasNoText bytes

-- the frames are too many for a correlation, or the blocks cannot keep the numbers of so many
pub data HasNoValue (bytes : List ℕ) (offset : ℕ) : Type 0 where
  ManyFrames : (script : Script) → HasText bytes script → numbers_place bytes ≤ length bytes →
      MAX_GATHERED < gathered script.blocks (frames_in_state bytes)
      → offset ≡ frames_place bytes → HasNoValue bytes offset
  OtherNumbers : (script : Script) → HasFrames bytes script → state_end bytes script ≤ length bytes
      → (Fits script (frames_in_state bytes) (numbers_in bytes (count_in bytes script)) → ⊥) →
      offset ≡ numbers_place bytes → HasNoValue bytes offset

-- the bytes have this fault at the offset
abbrev pub IsStateFault : StateKind → ℕ → List ℕ → Type 0
IsStateFault NotState offset bytes = (HasMark bytes → ⊥) × (offset ≡ 0)
IsStateFault (Version got) offset bytes = HasMark bytes × (12 ≤ length bytes) × (got ≡ u32_at bytes 8) × (got ≢ 1) ×
    (offset ≡ 8)
IsStateFault Text offset bytes = HasNoText bytes × (offset ≡ 16)
IsStateFault Cut offset bytes = IsCut bytes × (offset ≡ length bytes)
IsStateFault Value offset bytes = HasNoValue bytes offset
IsStateFault Extra offset bytes = (script : Script) × HasNumbers bytes script ×
    (state_end bytes script < length bytes) × (offset ≡ state_end bytes script)
IsStateFault TooLong offset bytes = (MAX_STATE < length bytes) × (offset ≡ MAX_STATE)
IsStateFault (LongText size) offset bytes = ⊥

-- and are no longer than a state may be, unless that is the fault
abbrev pub HasStateFault : StateKind → ℕ → List ℕ → Type 0
HasStateFault TooLong offset bytes = IsStateFault TooLong offset bytes
HasStateFault kind offset bytes = (length bytes ≤ MAX_STATE) × IsStateFault kind offset bytes
