-- What the calls of a convolution as the filter of a channel require.
use Rattle.std.proofs.Common.{◌≤◌, length}
use Rattle.std.proofs.lemmas.List.{length-map}
use Rattle.dsp_defs.specs.declared.format.Fmt.{Fmt}
use Rattle.dsp_defs.specs.declared.limits.TheConstants.{MAX_TAPS}
use Rattle.dsp_defs.specs.declared.script.Block.{Block}
use Rattle.dsp_conv.specs.ByChannel.{IsConvIn, taps_of}
use Rattle.dsp_conv.proofs.ChannelLemmas.{are-taps}

-- a block has taps, and few
pub tap-counts : (format : Fmt) (block : Block) → IsConvIn format block → IsConvIn format block
    × ((1 ≤ length (taps_of block)) × (length (taps_of block) ≤ MAX_TAPS))
tap-counts format block is = (let are = are-taps format block is in (is, (are.0, are.1)))

pub ruleset tap_counts = (tap-counts, length-map)
