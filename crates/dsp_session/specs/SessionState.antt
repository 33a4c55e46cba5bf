use Rattle.std.specs.Prelude.{ℕ, Bool, List}
use Rattle.dsp_defs.specs.declared.format.Coding.{Coding}
use Rattle.dsp_defs.specs.declared.script.Script.{Script}
use Rattle.dsp_chain.specs.Chain.{ChainState}

-- what a contract sees of a session
pub record SessionState : Type 0 where
  pub script : Script
  -- whether its biquads work on all channels of a frame at once
  pub banked : Bool
  -- the frames of a block
  pub block : ℕ
  -- how the samples of the input stand as bytes
  pub coding : Coding
  -- the script's blocks at work
  pub chain : ChainState
  -- the bytes that the last call gave
  pub out : List ℕ
