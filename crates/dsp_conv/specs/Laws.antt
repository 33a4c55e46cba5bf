-- Convolutions and correlations work on each channel by itself: the laws of the impls. A ghost item cites nothing of
-- its own crate but specs, so they stand here. No clause cites them.
use Rattle.std.specs.Prelude.{ℕ, ◌-◌, ◌<◌, min, length, IfSome, refl}
use Rattle.dsp_defs.specs.Sums.{full_length}
use Rattle.dsp_defs.specs.Cost.{lane_turns, correlation_products}
use Rattle.dsp_defs.specs.Shape.{group_of}
use Rattle.dsp_unit.specs.Filter.{IsByChannel}
use Rattle.dsp_defs.proofs.KeptLaws.{kept_of_channel-place}
use Rattle.dsp_filter.proofs.Units.{scaled, scaled-one, scaled-none, less-scaled, less-none}
use Rattle.dsp_defs.specs.declared.format.Fmt.{Fmt}
use Rattle.dsp_defs.specs.declared.script.Block.{Block}
use Rattle.dsp_defs.specs.declared.script.Block.TheVariants.{Conv, ConvPartial, Correlate}
use Rattle.dsp_conv.specs.ByChannel.{IsConvIn, IsCorrelateIn}

-- it works on each channel by itself
pub conv-by-channel : (format : Fmt) (block : Block) → IsConvIn format block → IsByChannel format block
conv-by-channel format (Conv taps) is = record {
  live_is = refl;
  whole_is = refl;
  channels_same = λ c. refl;
  format_same = refl;
  keeps_is = λ c x. refl;
  kinds_are = λ c n. refl;
  keeps_place = λ x. kept_of_channel-place format (Conv taps) x tt;
  no_measures = λ c number kept. refl;
  live_cost = λ c n. scaled c (min n (full_length n (length taps))) (length taps);
  so_far = λ c n taken given. scaled c given (length taps);
  turns = λ c m n. scaled c (length taps) (lane_turns format
      (min n (full_length n (length taps)) - min m (full_length m (length taps))));
}
conv-by-channel format (ConvPartial first count taps) is =
    let live = λ (n : ℕ). min (n - first) (min count (full_length n (length taps) - first)) in
    record {
      live_is = refl;
      whole_is = refl;
      channels_same = λ c. refl;
      format_same = refl;
      keeps_is = λ c x. refl;
      kinds_are = λ c n. refl;
      keeps_place = λ x. kept_of_channel-place format (ConvPartial first count taps) x tt;
      no_measures = λ c number kept. refl;
      live_cost = λ c n. scaled c (live n) (length taps);
      so_far = λ c n taken given. scaled c given (length taps);
      turns = λ c m n. less-scaled c (live m) (live n) (length taps);
    }
conv-by-channel format block is = absurd is

-- and not on groups
pub conv-groups : (format : Fmt) (block : Block) → IsConvIn format block → IfSome (group_of block) (λ g. 0 < g.0)
conv-groups format (Conv taps) is = tt
conv-groups format (ConvPartial first count taps) is = tt
conv-groups format block is = absurd is

-- ---- correlations

-- it works on each channel by itself
pub correlate-by-channel : (format : Fmt) (block : Block) → IsCorrelateIn format block → IsByChannel format block
correlate-by-channel format (Correlate taps) is = record {
  live_is = refl;
  whole_is = refl;
  channels_same = λ c. refl;
  format_same = refl;
  keeps_is = λ c x. refl;
  kinds_are = λ c n. refl;
  keeps_place = λ x. kept_of_channel-place format (Correlate taps) x tt;
  no_measures = λ c number kept. refl;
  live_cost = λ c n. scaled-none c;
  so_far = λ c n taken given. scaled-one c (correlation_products n (length taps) given);
  turns = λ c m n. less-none c;
}
correlate-by-channel format block is = absurd is

-- and not on groups
pub correlate-groups : (format : Fmt) (block : Block) → IsCorrelateIn format block →
    IfSome (group_of block) (λ g. 0 < g.0)
correlate-groups format (Correlate taps) is = tt
correlate-groups format block is = absurd is
