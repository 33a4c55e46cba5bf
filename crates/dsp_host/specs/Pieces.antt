-- A signal in pieces: sessions that go on behind a piece by the numbers that it left, what a piece gives, and why it
-- is refused.
use Rattle.std.specs.Prelude.{◌≡◌, ◌⊎◌, ℕ, ◌+◌, ◌*◌, ◌<◌, ◌≤◌, ℤ, List, [], ◌++◌, length, drop, IsTrue}
use Rattle.dsp_defs.specs.Block.{Frame}
use Rattle.dsp_defs.specs.Bytes.{width}
use Rattle.dsp_defs.specs.Counts.{Counts}
use Rattle.dsp_defs.specs.Grammar.{Reads}
use Rattle.dsp_defs.specs.Output.{live_bytes, output_coding}
use Rattle.dsp_defs.specs.Shape.{gathered, held, is_legal}
use Rattle.dsp_defs.specs.declared.format.Coding.{Coding}
use Rattle.dsp_defs.specs.declared.limits.TheConstants.{MAX_GATHERED, MAX_INPUT}
use Rattle.dsp_defs.specs.declared.script.Script.{Script}
use Rattle.dsp_unit.specs.Line.{place_behind, place_room}
use Rattle.dsp_chain.specs.Chain.{input_place}
use Rattle.dsp_defs.specs.KeptOfScript.{Fits, kept, kept_count}
use Rattle.dsp_session.specs.Advancing.{Runs}
use Rattle.dsp_session.specs.Session.{StandsFor, Feeds, Fails, SameSession, frame_bytes, input_coding, signal}
use Rattle.dsp_session.specs.SessionState.{SessionState}
use Rattle.dsp_host.specs.Opening.{FailsToOpen, asked}
use Rattle.dsp_host.specs.declared.refusal.Refusal.{Refusal}
use Rattle.dsp_host.specs.declared.refusal.Refusal.TheVariants as refusal

-- ---- going on

-- these numbers were left by a signal; a signal without frames may leave none
abbrev pub LeftBy : Script → List Frame → List ℤ → Type 0
LeftBy script x numbers = (numbers ≡ kept script x) ⊎ ((x ≡ []) × (numbers ≡ []))

-- nothing came before, and nothing was kept
abbrev pub IsFirst : ℕ → List ℤ → Type 0
IsFirst frames numbers = (frames ≡ 0) × (numbers ≡ [])

-- the blocks can go on behind so many frames with these numbers
abbrev pub CanGoOn : Script → ℕ → List ℤ → Type 0
CanGoOn script frames numbers = IsFirst frames numbers ⊎ ((frames ≤ MAX_INPUT) × Fits script frames numbers)

-- a session of the script goes on behind each signal of so many frames that left these numbers
pub record GoesOnBehind (script : Script) (block frames : ℕ) (numbers : List ℤ) (s : SessionState) : Type 0 where
  pub script_is : s.script ≡ script
  pub block_is : s.block ≡ block
  pub coding_is : s.coding ≡ input_coding script
  pub counted : s.chain.frames ≡ frames
  pub few : frames ≤ MAX_INPUT
  pub runs : Runs s
  pub stands : (x : List Frame) → length x ≡ frames → LeftBy script x numbers → StandsFor s x

-- the text reads as a script that can go on so, in blocks of a legal length
pub record MayGoOn (text : List ℕ) (block frames : ℕ) (numbers : List ℤ) (script : Script) : Type 0 where
  pub reads : Reads text script
  pub legal : IsTrue (is_legal script.input.channels script.blocks (asked block script))
  pub fits : CanGoOn script frames numbers

-- a session of it
pub record IsReopened (text : List ℕ) (block frames : ℕ) (numbers : List ℤ) (s : SessionState) : Type 0 where
  pub script : Script
  pub may : MayGoOn text block frames numbers script
  pub behind : GoesOnBehind script (asked block script) frames numbers s

-- the text reads as a script that runs in blocks of the length, and whose blocks cannot keep the numbers of so many
-- frames
pub record IsUnfit (text : List ℕ) (block frames : ℕ) (numbers : List ℤ) : Type 0 where
  pub script : Script
  pub reads : Reads text script
  pub legal : IsTrue (is_legal script.input.channels script.blocks (asked block script))
  pub unfit : CanGoOn script frames numbers → ⊥

-- why no session goes on there
abbrev pub FailsToReopen : Refusal → List ℕ → ℕ → ℕ → List ℤ → Type 0
FailsToReopen (refusal.Open fault) text block frames numbers = FailsToOpen fault text block
FailsToReopen refusal.State text block frames numbers = IsUnfit text block frames numbers
FailsToReopen why text block frames numbers = ⊥

-- ---- a piece

-- how many frames bytes are
abbrev pub frames_of : Script → Coding → List ℕ → ℕ
frames_of script coding bytes = length (signal script coding bytes)

-- they are whole frames
abbrev pub AreWhole : Script → Coding → List ℕ → Type 0
AreWhole script coding bytes = length bytes ≡ frames_of script coding bytes * frame_bytes script coding

-- the bytes that a call gives at most
abbrev pub piece_room : Script → ℕ → ℕ
piece_room script block = place_room (place_behind (input_place script block) script.blocks) * width
    (output_coding script)

-- what a call may be given behind so many frames, with so much room for what it gives
pub record Accepts (script : Script) (coding : Coding) (block frames : ℕ) (bytes : List ℕ) (space : ℕ) : Type 0 where
  pub whole : AreWhole script coding bytes
  pub few : frames_of script coding bytes ≤ block
  pub in_limit : frames + frames_of script coding bytes ≤ MAX_INPUT
  pub room : piece_room script block ≤ space

-- a correlation would gather too many samples: it holds so many of a channel, and so many would be more
pub record IsFull (script : Script) (before frames told more : ℕ) : Type 0 where
  pub over : MAX_GATHERED < gathered script.blocks frames
  pub held_is : told ≡ held script.blocks before
  pub more_is : told + more ≡ gathered script.blocks frames

-- why a call is not accepted, with the number that it is about
abbrev pub Refuses : Refusal → Script → Coding → ℕ → ℕ → List ℕ → ℕ → Type 0
Refuses (refusal.Frames frame) script coding block frames bytes room = (frame ≡ frame_bytes script coding) ×
    (AreWhole script coding bytes → ⊥)
Refuses (refusal.Length most) script coding block frames bytes room = (most ≡ block) ×
    (block < frames_of script coding bytes)
Refuses (refusal.Input limit) script coding block frames bytes room = (limit ≡ MAX_INPUT) ×
    (MAX_INPUT < frames + frames_of script coding bytes)
Refuses (refusal.Room wanted) script coding block frames bytes room = (wanted ≡ piece_room script block) ×
    (room < piece_room script block)
Refuses (refusal.Gather told more) script coding block frames bytes room =
    IsFull script frames (frames + frames_of script coding bytes) told more
Refuses why script coding block frames bytes room = ⊥

-- the session took the frames of the bytes; what they add stands at the front of the output, whose rest is as it was
pub record Fed (old new : SessionState) (given : ℕ) (bytes out after : List ℕ) (before counts : Counts) : Type 0 where
  pub accepts : Accepts old.script old.coding old.block old.chain.frames bytes (length out)
  pub same : SameSession old new
  pub fed : Feeds old new bytes before counts
  pub runs : Runs new
  pub count : given ≡ length new.out
  pub front : after ≡ new.out ++ drop given out

-- it is as it was, but that where a correlation was full it answers that from now on
abbrev pub Stays : Refusal → SessionState → SessionState → Counts → Counts → Type 0
Stays (refusal.Gather told more) old new before counts =
    Fails old new (record { held = told; more = more }) before counts
Stays why old new before counts = new ≡ old

-- it took nothing, and nothing was written
pub record NotFed (why : Refusal) (old new : SessionState) (bytes out after : List ℕ) (before counts : Counts) : Type
    0 where
  pub cause : Refuses why old.script old.coding old.block old.chain.frames bytes (length out)
  pub stays : Stays why old new before counts
  pub unwritten : after ≡ out
  pub no_steps : counts ≡ before

-- ---- a piece from text to numbers

-- behind each signal of so many frames that left the numbers, the bytes of further frames add the bytes that were
-- given to
-- the output, and leave the numbers behind
pub record GoesOn (text : List ℕ) (block frames : ℕ) (numbers : List ℤ) (bytes : List ℕ) (room kept_room : ℕ)
    (given : List ℕ) (after : List ℤ) : Type 0 where
  pub script : Script
  pub may : MayGoOn text block frames numbers script
  pub accepts : Accepts script (input_coding script) (asked block script) frames bytes room
  pub not_full : gathered script.blocks (frames + frames_of script (input_coding script) bytes) ≤ MAX_GATHERED
  pub counted : length after ≡ kept_count script (frames + frames_of script (input_coding script) bytes)
  pub kept_few : length after ≤ kept_room
  pub gives : (x : List Frame) → length x ≡ frames → LeftBy script x numbers
      → live_bytes script (x ++ signal script (input_coding script) bytes) ≡ live_bytes script x ++ given
  pub leaves : (x : List Frame) → length x ≡ frames → LeftBy script x numbers
      → after ≡ kept script (x ++ signal script (input_coding script) bytes)

-- the piece itself is why
abbrev pub RefusesPiece : Refusal → Script → ℕ → ℕ → List ℕ → ℕ → ℕ → Type 0
RefusesPiece (refusal.KeptRoom wanted) script block frames bytes room kept_room =
    let all = kept_count script (frames + frames_of script (input_coding script) bytes) in (wanted ≡ all) ×
    (kept_room < all)
RefusesPiece why script block frames bytes room kept_room =
    Refuses why script (input_coding script) block frames bytes room

-- a text that can go on, and a piece that is refused
pub record IsRefused (why : Refusal) (text : List ℕ) (block frames : ℕ) (numbers : List ℤ) (bytes : List ℕ)
    (room kept_room : ℕ) : Type 0 where
  pub script : Script
  pub may : MayGoOn text block frames numbers script
  pub cause : RefusesPiece why script (asked block script) frames bytes room kept_room

-- why a piece gives nothing
abbrev pub FailsToGoOn : Refusal → List ℕ → ℕ → ℕ → List ℤ → List ℕ → ℕ → ℕ → Type 0
FailsToGoOn (refusal.Open fault) text block frames numbers bytes room kept_room = FailsToOpen fault text block
FailsToGoOn refusal.State text block frames numbers bytes room kept_room = IsUnfit text block frames numbers
FailsToGoOn why text block frames numbers bytes room kept_room =
    IsRefused why text block frames numbers bytes room kept_room
