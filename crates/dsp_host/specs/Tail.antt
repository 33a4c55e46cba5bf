-- The end of a signal: its tail and its measures, and why they do not come.
use Rattle.std.specs.Prelude.{◌≡◌, ℕ, ◌<◌, ◌≤◌, true, List, ◌++◌, length, take, drop, Some, None}
use Rattle.dsp_defs.specs.Block.{Frame}
use Rattle.dsp_defs.specs.Counts.{Counts}
use Rattle.dsp_defs.specs.Output.{live_bytes, whole_bytes}
use Rattle.dsp_defs.specs.Shape.{window_at}
use Rattle.dsp_session.specs.Session.{StandsFor, SameSession, measured, measures_of, tail_bytes}
use Rattle.dsp_session.specs.SessionState.{SessionState}
use Rattle.dsp_host.specs.declared.refusal.Refusal.{Refusal}
use Rattle.dsp_host.specs.declared.refusal.Refusal.TheVariants as refusal

-- the whole tail stands at the front of the output, whose rest is as it was: for each signal that the session stood
-- for it is what the whole output
-- has behind the live one; and the session has the measures of the whole signal
pub record Finished (old new : SessionState) (given : ℕ) (out after : List ℕ) : Type 0 where
  pub no_window : window_at old.script.blocks old.chain.frames ≡ None
  pub given_is : given ≡ tail_bytes old.script old.chain.frames
  pub room : given ≤ length out
  pub same : SameSession old new
  pub ended : new.chain.ended ≡ true
  pub front : after ≡ take given after ++ drop given out
  pub tail : (x : List Frame) → StandsFor old x → whole_bytes old.script x ≡ live_bytes old.script x ++ take given after
  pub measures : (x : List Frame) → StandsFor old x → measured new ≡ measures_of old.script x

-- a window ends past its convolution, or the output has less room than the tail
abbrev pub FailsToFinish : Refusal → SessionState → ℕ → Type 0
FailsToFinish (refusal.Window end full) s room = window_at s.script.blocks s.chain.frames ≡ Some (end, full)
FailsToFinish (refusal.Room wanted) s room = (wanted ≡ tail_bytes s.script s.chain.frames) ×
    (room < tail_bytes s.script s.chain.frames)
FailsToFinish why s room = ⊥

-- then nothing was given, and nothing has changed
pub record NotFinished (why : Refusal) (old new : SessionState) (out after : List ℕ) (before counts : Counts) : Type 0
  where
    pub cause : FailsToFinish why old (length out)
    pub stays : new ≡ old
    pub unwritten : after ≡ out
    pub no_steps : counts ≡ before
