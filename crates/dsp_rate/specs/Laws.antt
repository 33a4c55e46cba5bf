-- Decimators and interpolators work on each channel by itself: the laws of the impls. A ghost item cites nothing of
-- its own crate but specs, so they stand here. No clause cites them.
use Rattle.std.specs.Prelude.{◌-◌, ◌*◌, ◌/◌, ◌<◌, length, IfSome, refl}
use Rattle.dsp_defs.specs.Cost.{lane_turns}
use Rattle.dsp_defs.specs.Shape.{group_of}
use Rattle.dsp_unit.specs.Filter.{IsByChannel}
use Rattle.dsp_defs.proofs.KeptLaws.{kept_of_channel-place}
use Rattle.dsp_filter.proofs.Units.{scaled}
use Rattle.dsp_defs.specs.declared.format.Fmt.{Fmt}
use Rattle.dsp_defs.specs.declared.script.Block.{Block}
use Rattle.dsp_defs.specs.declared.script.Block.TheVariants.{Decimate, Interpolate}
use Rattle.dsp_rate.specs.ByChannel.{IsDecimateIn, IsInterpolateIn}

-- ---- decimators

-- it works on each channel by itself
pub decimate-by-channel : (format : Fmt) (block : Block) → IsDecimateIn format block → IsByChannel format block
decimate-by-channel format (Decimate factor taps) is = record {
  live_is = refl;
  whole_is = refl;
  channels_same = λ c. refl;
  format_same = refl;
  keeps_is = λ c x. refl;
  kinds_are = λ c n. refl;
  keeps_place = λ x. kept_of_channel-place format (Decimate factor taps) x tt;
  no_measures = λ c number kept. refl;
  live_cost = λ c n. scaled c (n / factor * 1) (length taps);
  so_far = λ c n taken given. scaled c given (length taps);
  turns = λ c m n. scaled c (n / factor - m / factor) (lane_turns format (length taps));
}
decimate-by-channel format block is = absurd is

-- in groups of one frame and more
pub decimate-groups : (format : Fmt) (block : Block) → IsDecimateIn format block →
    IfSome (group_of block) (λ g. 0 < g.0)
decimate-groups format (Decimate factor taps) is = is.0
decimate-groups format block is = absurd is

-- ---- interpolators

-- it works on each channel by itself
pub interpolate-by-channel : (format : Fmt) (block : Block) → IsInterpolateIn format block → IsByChannel format block
interpolate-by-channel format (Interpolate factor taps) is = record {
  live_is = refl;
  whole_is = refl;
  channels_same = λ c. refl;
  format_same = refl;
  keeps_is = λ c x. refl;
  kinds_are = λ c n. refl;
  keeps_place = λ x. kept_of_channel-place format (Interpolate factor taps) x tt;
  no_measures = λ c number kept. refl;
  live_cost = λ c n. scaled c n (length taps);
  so_far = λ c n taken given. scaled c taken (length taps);
  turns = λ c m n. scaled c (length taps) (lane_turns format (n - m));
}
interpolate-by-channel format block is = absurd is

-- and not on groups
pub interpolate-groups : (format : Fmt) (block : Block) → IsInterpolateIn format block →
    IfSome (group_of block) (λ g. 0 < g.0)
interpolate-groups format (Interpolate factor taps) is = tt
interpolate-groups format block is = absurd is
