-- What a block without memory gives of the samples of whole frames.
use Rattle.std.specs.Prelude.{◌≡◌, ℕ, ◌*◌, ℤ, List, length, map, All, FitsSigned}
use Rattle.dsp_defs.specs.Formats.{word}
use Rattle.dsp_defs.specs.Block.{frames_in, given_frame, format_after, channels_after}
use Rattle.dsp_defs.specs.Cost.{block_cost}
use Rattle.dsp_defs.specs.declared.format.Fmt.{Fmt}
use Rattle.dsp_defs.specs.declared.format.Fmt.TheVariants.{Q15}
use Rattle.dsp_defs.specs.declared.script.Block.{Block}

-- a frame for each, in the format behind the block
pub record Gives (format : Fmt) (channels : ℕ) (block : Block) (taken given : List ℤ) : Type 0 where
  pub frames : frames_in (channels_after channels block) given ≡ map (given_frame format block)
      (frames_in channels taken)
  pub whole_frames : length given ≡ length (frames_in channels taken) * channels_after channels block
  pub in_format : All (FitsSigned (word (format_after format block))) given

-- the products that it makes of one frame, the same in every format
abbrev pub price : Block → ℕ → ℕ
price block channels = block_cost Q15 channels block 1 1
