-- One call of a session with bytes, and one with bytes that a source lends.
use Rattle.std.specs.Prelude.{◌≡◌, ℕ, ◌+◌, ◌*◌, ◌≤◌, ◌↔◌, false, List, length, None, Result, IfOk, IfErr, IsErr}
use Rattle.dsp_ports.specs.Ports.{SourceState, Gave, asked}
use Rattle.dsp_defs.specs.Counts.{Counts}
use Rattle.dsp_defs.specs.Shape.{gathered, held}
use Rattle.dsp_defs.specs.declared.fault.GatherFull.{GatherFull}
use Rattle.dsp_defs.specs.declared.limits.TheConstants.{MAX_INPUT}
use Rattle.dsp_input.specs.Taking.{frame_bytes}
use Rattle.dsp_session.specs.SessionState.{SessionState}
use Rattle.dsp_session.specs.Session.{SameSession, Feeds, Fails, IsTooMuch, call_room, signal}

-- so many bytes are whole frames that it may take in one call
pub record MayTake (s : SessionState) (size : ℕ) : Type 0 where
  pub running : s.chain.ended ≡ false
  pub frames : ℕ
  pub whole : size ≡ frames * frame_bytes s.script s.coding
  pub few : frames ≤ s.block
  pub in_limit : s.chain.frames + frames ≤ MAX_INPUT

-- it was fed with the frames of the bytes, or refused them
pub record IsFed (result : Result ℕ GatherFull) (old new : SessionState) (bytes : List ℕ) (before after : Counts) : Type
    0 where
  pub same : SameSession old new
  pub given : IfOk result (λ given. given ≡ length new.out)
  pub within : IfOk result (λ given. given ≤ call_room old)
  pub fed : IfOk result (λ _. Feeds old new bytes before after)
  pub full : IsErr result ↔ IsTooMuch old (length (signal old.script old.coding bytes))
  pub numbers : old.chain.failed ≡ None → IfErr result (λ (fault : GatherFull).
      (fault.held ≡ held old.script.blocks old.chain.frames) × (fault.held + fault.more ≡ gathered old.script.blocks
      (old.chain.frames + length (signal old.script old.coding bytes))))
  pub refused : IfErr result (λ fault. Fails old new fault before after)

-- and the bytes were the next of a source, so many
pub record IsFedFrom (result : Result ℕ GatherFull) (old new : SessionState) (size : ℕ) (input now : SourceState)
    (before after : Counts) : Type 0 where
  pub bytes : List ℕ
  pub long : length bytes ≡ size
  pub gave : Gave (asked input size) now bytes
  pub no_fault : now.faults ≡ input.faults
  pub going : now.ended ≡ input.ended
  pub fed : IsFed result old new bytes before after
