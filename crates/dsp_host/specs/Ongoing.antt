-- A signal that a host holds from call to call: what a call adds to it, the numbers that it leaves, and why a call
-- does nothing.
use Rattle.std.specs.Prelude.{◌≡◌, ℕ, ◌+◌, ◌<◌, ◌≤◌, ℤ, List, ◌++◌, length}
use Rattle.dsp_defs.specs.Block.{Frame}
use Rattle.dsp_defs.specs.KeptOfScript.{kept, kept_count}
use Rattle.dsp_defs.specs.Output.{live_bytes}
use Rattle.dsp_defs.specs.Shape.{gathered}
use Rattle.dsp_defs.specs.declared.limits.TheConstants.{MAX_GATHERED, MAX_INPUT}
use Rattle.dsp_session.specs.Advancing.{Runs}
use Rattle.dsp_session.specs.Session.{StandsFor, SameSession, signal}
use Rattle.dsp_session.specs.SessionState.{SessionState}
use Rattle.dsp_host.specs.Pieces.{Accepts, GoesOn, IsReopened, Refuses, frames_of}
use Rattle.dsp_host.specs.declared.refusal.Refusal.{Refusal}
use Rattle.dsp_host.specs.declared.refusal.Refusal.TheVariants as refusal

-- it can take more
pub record IsOngoing (s : SessionState) : Type 0 where
  pub runs : Runs s
  pub few : s.chain.frames ≤ MAX_INPUT

-- the frames of the bytes were taken: what they add to the output of each signal that it stood for is what was given,
-- and it stands for that signal
-- with them
pub record Pushed (old new : SessionState) (bytes : List ℕ) (space : ℕ) (given : List ℕ) : Type 0 where
  pub accepts : Accepts old.script old.coding old.block old.chain.frames bytes space
  pub not_full : gathered old.script.blocks (old.chain.frames + frames_of old.script old.coding bytes) ≤ MAX_GATHERED
  pub same : SameSession old new
  pub counted : new.chain.frames ≡ old.chain.frames + frames_of old.script old.coding bytes
  pub gives : (x : List Frame) → StandsFor old x → live_bytes old.script (x ++ signal old.script old.coding bytes) ≡
      live_bytes old.script x ++ given
  pub stands : (x : List Frame) → StandsFor old x → StandsFor new (x ++ signal old.script old.coding bytes)

-- why they are not taken
abbrev pub FailsToPush : Refusal → SessionState → List ℕ → ℕ → Type 0
FailsToPush (refusal.Full samples) s bytes space =
    (samples ≡ gathered s.script.blocks (s.chain.frames + frames_of s.script s.coding bytes)) × (MAX_GATHERED < samples)
FailsToPush (refusal.Gather held more) s bytes space = ⊥
FailsToPush why s bytes space = Refuses why s.script s.coding s.block s.chain.frames bytes space

-- these are the numbers that the blocks keep of each signal that it stands for
pub record IsKeptOf (s : SessionState) (numbers : List ℤ) : Type 0 where
  pub count : length numbers ≡ kept_count s.script s.chain.frames
  pub leaves : (x : List Frame) → StandsFor s x → numbers ≡ kept s.script x

-- there is less room than for them
abbrev pub FailsToSave : Refusal → SessionState → ℕ → Type 0
FailsToSave (refusal.KeptRoom wanted) s space = (wanted ≡ kept_count s.script s.chain.frames) × (space < wanted)
FailsToSave why s space = ⊥

-- a signal that is held goes on as its text does from the numbers that were left
abbrev pub HeldIsText : Type 0
HeldIsText =
    (text : List ℕ) (block frames : ℕ) (numbers : List ℤ) (old new : SessionState) (bytes : List ℕ)
    (space kept_room : ℕ) (given : List ℕ) (after : List ℤ)
    → IsReopened text block frames numbers old → Pushed old new bytes space given → IsKeptOf new after →
    length after ≤ kept_room
    → GoesOn text block frames numbers bytes space kept_room given after
