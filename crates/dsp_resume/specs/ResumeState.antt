-- What a contract sees of a run that is to be stopped, or that goes on.
use Rattle.std.specs.Prelude.{◌≡◌, ℕ, ◌+◌, ◌*◌, ◌≤◌, Bool, true, false, List, [], length}
use Rattle.dsp_defs.specs.Block.{Frame}
use Rattle.dsp_defs.specs.Canon.{canon}
use Rattle.dsp_defs.specs.KeptOfScript.{kept, kept_count}
use Rattle.dsp_defs.specs.Shape.{gathered}
use Rattle.dsp_defs.specs.StateBytes.{state_head, state_of}
use Rattle.dsp_defs.specs.declared.limits.TheConstants.{MAX_GATHERED, MAX_SCRIPT}
use Rattle.dsp_defs.specs.declared.script.Script.{Script}
use Rattle.dsp_session.specs.Session.{SameScript, StandsFor}
use Rattle.dsp_session.specs.SessionState.{SessionState}
use Rattle.dsp_session.specs.Advancing.{Runs}
use Rattle.dsp_state.specs.SavedState.{SavedState}

-- the session, the frame after which it stops or goes on, whether it is to be stopped, and the bytes of its state so
-- far
pub record ResumeState : Type 0 where
  pub session : SessionState
  pub frames : ℕ
  pub stops : Bool
  pub state : List ℕ

-- ---- new runs

-- a run that is to be stopped after so many frames, and has taken nothing
pub record IsNewResume (script : Script) (block frames : ℕ) (r : ResumeState) : Type 0 where
  pub script_is : r.session.script ≡ script
  pub block_is : r.session.block ≡ block
  pub stands : StandsFor r.session []
  pub frames_is : r.frames ≡ frames
  pub plain : r.session.banked ≡ false
  pub stops : r.stops ≡ true
  pub head : r.state ≡ state_head script frames
  pub short : length (canon script) ≤ MAX_SCRIPT

-- a run that goes on from a loaded state: it stands for each signal whose numbers these are
pub record IsResumed (saved : SavedState) (block : ℕ) (r : ResumeState) : Type 0 where
  pub script_is : r.session.script ≡ saved.script
  pub block_is : r.session.block ≡ block
  pub runs : Runs r.session
  pub frames_is : r.frames ≡ saved.frames
  pub plain : r.session.banked ≡ false
  pub goes : r.stops ≡ false
  pub counted : r.session.chain.frames ≡ saved.frames
  pub stands : (x : List Frame) → length x ≡ saved.frames → saved.numbers ≡ kept saved.script x → StandsFor r.session x

-- ---- a run that was stopped

-- its state is that of each signal of these frames for which its session stands
pub record Saves (old new : ResumeState) : Type 0 where
  pub script : SameScript old.session new.session
  pub frames : new.frames ≡ old.frames
  pub over : new.stops ≡ false
  pub state : (x : List Frame) → StandsFor new.session x → length x ≡ old.frames →
      new.state ≡ state_of old.session.script old.frames (kept old.session.script x)

-- no number was added to its state
pub record SavesNothing (old new : ResumeState) : Type 0 where
  pub script : SameScript old.session new.session
  pub frames : new.frames ≡ old.frames
  pub over : new.stops ≡ false
  pub state : new.state ≡ old.state

-- ---- memory

-- while it is to be stopped, there is room for the numbers that are kept, and for their bytes after the head of the
-- state
pub record HasRoom (r : ResumeState) (numbers room : ℕ) : Type 0 where
  pub counted : r.stops ≡ true → gathered r.session.script.blocks r.frames ≤ MAX_GATHERED →
      numbers ≡ kept_count r.session.script r.frames
  pub enough : r.stops ≡ true → length r.state + 8 * numbers ≤ room
