-- What a contract sees of a controller.
use Rattle.std.specs.Prelude.{⊤, ℤ, pos, List, [], ◌∷◌, FitsSigned}
use Rattle.dsp_defs.specs.Adaptive.{Gains, pid_output}
use Rattle.dsp_defs.specs.Signal.{outputs}
use Rattle.dsp_defs.specs.Streaming.{Behaviour}
use Rattle.dsp_defs.specs.Kept.{latest}
use Rattle.dsp_defs.specs.Formats.{word}
use Rattle.dsp_defs.specs.declared.format.Fmt.{Fmt}
use Rattle.dsp_defs.specs.declared.script.Block.{Block}
use Rattle.dsp_defs.specs.declared.script.Block.TheVariants.{Pid}

-- Kp, Ki and Kd, the last two samples, and the last output
pub record PidState : Type 0 where
  pub kp : ℤ
  pub ki : ℤ
  pub kd : ℤ
  pub x1 : ℤ
  pub x2 : ℤ
  pub y1 : ℤ

-- a controller that has taken nothing
abbrev pub new_pid : ℤ → ℤ → ℤ → PidState
new_pid kp ki kd = record { kp = kp; ki = ki; kd = kd; x1 = pos 0; x2 = pos 0; y1 = pos 0 }

abbrev pub block_of : PidState → Block
block_of s = Pid s.kp s.ki s.kd

abbrev pub kept_of : PidState → List ℤ
kept_of s = s.x1 ∷ s.x2 ∷ s.y1 ∷ []

-- what the controller with these gains does with a signal
abbrev pub pid_acts : Fmt → Gains → Behaviour
pid_acts format g = record {
  gives = outputs (pid_output format g);
  keeps = λ x. latest x 0 ∷ latest x 1 ∷ latest (outputs (pid_output format g) x) 0 ∷ [];
}

-- ---- the block

-- the block is a controller, and its gains are numbers of the format
abbrev pub IsPidIn : Fmt → Block → Type 0
IsPidIn format (Pid kp ki kd) = FitsSigned (word format) kp × FitsSigned (word format) ki × FitsSigned (word format) kd
IsPidIn format block = ⊥

-- the block is a controller
abbrev pub IsPidBlock : Block → Type 0
IsPidBlock (Pid kp ki kd) = ⊤
IsPidBlock block = ⊥
