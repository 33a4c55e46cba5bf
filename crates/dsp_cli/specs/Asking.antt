-- What is asked of the ports.
use Rattle.std.specs.Prelude.{◌≡◌, ◌⊎◌, ℕ, ◌+◌, ◌<◌, ◌≤◌}
use Rattle.dsp_ports.specs.Ports.{SinkState, IsInOrder}
use Rattle.dsp_cli.specs.Call.{Call}

-- ---- the script or the state

-- reads of a port led from one state to another: each asked for something, for no more than was missing to so many
-- bytes in all, and gave some
pub data Drawn {S : Type 0} (Reads : S → ℕ → S → Type 0) (taken : S → ℕ) (most : ℕ) (start : S) : S → Type 0 where
  Begun : Drawn Reads taken most start start
  Read : (asked : ℕ) (before after : S) → Drawn Reads taken most start before → 1 ≤ asked
      → taken before + asked ≤ taken start + most → Reads before asked after → taken before < taken after
      → Drawn Reads taken most start after

-- such reads were made, and at most one that gave nothing or failed, behind which there was none
pub record Draws {S : Type 0} (Reads : S → ℕ → S → Type 0) (taken : S → ℕ) (most : ℕ) (old new : S) : Type 0 where
  pub reading : S
  pub drawn : Drawn Reads taken most old reading
  pub last : (new ≡ reading) ⊎ ((asked : ℕ) × (1 ≤ asked) × (taken reading + asked ≤ taken old + most) ×
      Reads reading asked new × (taken new ≡ taken reading))

-- ---- the other ports

-- unless it had ended before, no read of the input or of the other file asked for nothing, and none came after one
-- that gave nothing or failed; and no empty piece was written to the output or the report
pub record AsksInOrder (c : Call) (report told : SinkState) : Type 0 where
  pub of_input : IsInOrder c.port c.later
  pub of_other : IsInOrder c.other c.seen
  pub of_output : c.after.put.strayed ≡ c.sink.put.strayed
  pub of_report : told.put.strayed ≡ report.put.strayed
