-- What a session is with numbers that were kept.
use Rattle.std.specs.Prelude.{◌≡◌, ℕ, false, ℤ, List, length, None}
use Rattle.dsp_defs.specs.Block.{Frame}
use Rattle.dsp_chain.specs.Chain.{IsLive}
use Rattle.dsp_defs.specs.KeptOfScript.{kept}
use Rattle.dsp_session.specs.SessionState.{SessionState}
use Rattle.dsp_session.specs.Session.{Holds, StandsFor, SameSession}

-- the session keeps these numbers from now on, and so many frames count as taken: it stands for each signal of so
-- many frames that has the numbers
pub record Restores (old new : SessionState) (frames : ℕ) (numbers : List ℤ) : Type 0 where
  pub same : SameSession old new
  pub holds : Holds new
  pub running : new.chain.ended ≡ false
  pub works : new.chain.failed ≡ None
  pub counted : new.chain.frames ≡ frames
  pub live : IsLive new.chain
  pub stands : (x : List Frame) → length x ≡ frames → numbers ≡ kept old.script x → StandsFor new x
