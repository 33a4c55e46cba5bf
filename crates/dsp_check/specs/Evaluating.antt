-- What is worked out of a signal.
use Rattle.std.specs.Prelude.{◌≡◌, ℤ, List, length}
use Rattle.dsp_defs.specs.Block.{channels_after, format_after, frames_of, whole}
use Rattle.dsp_defs.specs.declared.flow.Flow.{Flow}
use Rattle.dsp_defs.specs.declared.script.Block.{Block}
use Rattle.dsp_check.specs.Channels.{InFormat}

-- the channels are those of what a block gives of a whole signal
pub record Gives (flow : Flow) (block : Block) (channels given : List (List ℤ)) : Type 0 where
  pub values : frames_of given ≡ whole flow.format flow.channels block (frames_of channels)
  pub channels_are : length given ≡ channels_after flow.channels block
  pub in_format : InFormat (format_after flow.format block) given
