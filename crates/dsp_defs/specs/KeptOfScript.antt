-- The numbers that the blocks of a script keep.
use Rattle.std.specs.Prelude.{ℕ, ◌≤◌, ℤ, List}
use Rattle.dsp_defs.specs.Block.{Frame}
use Rattle.dsp_defs.specs.Shape.{gathered}
use Rattle.dsp_defs.specs.Kept.{kept_of_chain, kept_count_of_chain, FitsBlocks}
use Rattle.dsp_defs.specs.declared.limits.TheConstants.{MAX_GATHERED}
use Rattle.dsp_defs.specs.declared.script.Script.{Script}

-- what the blocks of a script keep of the frames x, block after block
abbrev pub kept : Script → List Frame → List ℤ
kept script x = kept_of_chain script.input.format script.input.channels script.blocks x

-- how many numbers they keep of n frames
abbrev pub kept_count : Script → ℕ → ℕ
kept_count script n = kept_count_of_chain script.input.format script.input.channels script.blocks n

-- the blocks can keep these numbers of so many frames, of which a correlation gathers no more than it may
pub record Fits (script : Script) (frames : ℕ) (numbers : List ℤ) : Type 0 where
  pub gathers : gathered script.blocks frames ≤ MAX_GATHERED
  pub fits : FitsBlocks script.input.format script.input.channels script.blocks frames numbers
