-- What a chain has given of a signal stays when the signal goes on, and is the beginning of what it gives of the whole.
use Rattle.std.proofs.Common.{ℕ, ◌*◌, ◌/◌, ℤ, List, [], ◌∷◌, ◌++◌, map, Option, Some, None, refl, ap, ◌∙◌, nat_abs}
use Rattle.dsp_defs.specs.Sums.{conv, conv_partial, correlate}
use Rattle.dsp_defs.specs.Lattice.{lattice_fir, lattice_iir}
use Rattle.dsp_defs.specs.Biquad.{biquad, biquad64}
use Rattle.dsp_defs.specs.Adaptive.{Adapted, pid, lms}
use Rattle.dsp_defs.specs.Matrix.{each_group, added, subtracted, scaled, transposed, multiplied}
use Rattle.dsp_defs.specs.Streaming.{Begins, IsCausal}
use Rattle.dsp_defs.specs.Block.{Frame, input_pairs, given_frame, by_frames, applied, live_channel, whole, live}
use Rattle.dsp_defs.specs.Block.{live_conv, live_conv_partial, whole_chain, live_chain, format_after, channels_after}
use Rattle.dsp_defs.specs.declared.format.Fmt.{Fmt}
use Rattle.dsp_defs.specs.declared.script.Block.{Block}
use Rattle.dsp_defs.specs.declared.script.Block.TheVariants.{Fir, Sparse, Decimate, Interpolate, LatticeFir}
use Rattle.dsp_defs.specs.declared.script.Block.TheVariants.{LatticeIir, Biquad, Biquad64, Conv, ConvPartial}
use Rattle.dsp_defs.specs.declared.script.Block.TheVariants.{Correlate, Lms, Pid, MatAdd, MatSub, MatScale, MatTrans}
use Rattle.dsp_defs.specs.declared.script.Block.TheVariants.{MatMult, Power, Dot, CmplxDot, Max, Min}
use Rattle.dsp_defs.proofs.Causal.{GivesByLength, each_channel_begins, map_causal}
use Rattle.dsp_defs.proofs.Streaming.{causal_chain}
use Rattle.dsp_defs.proofs.BlockLaws.{fir_causal, sparse_causal, decimate_causal, interpolate_causal}
use Rattle.dsp_defs.proofs.BlockLaws.{each_group_causal, biquad_causal, biquad64_causal, pid_causal}
use Rattle.dsp_defs.proofs.BlockLaws.{lattice_fir_causal, lattice_iir_causal, lms_causal, live_conv_causal}
use Rattle.dsp_defs.proofs.BlockLaws.{live_conv_begins, live_conv_partial_causal, live_conv_partial_begins}
use Rattle.dsp_defs.proofs.BlockLaws.{values_by_length, by_length, length-biquad, length-biquad64, length-pid}
use Rattle.dsp_defs.proofs.BlockLaws.{length-lattice_fir, length-lattice_iir, live_conv_by_length}
use Rattle.dsp_defs.proofs.BlockLaws.{live_conv_partial_by_length}

-- ---- blocks that work on each channel

-- what is given of a channel is as long as the channel's length says, and stays when the channel goes on
abbrev IsCausalChannel : Option (List ℤ → List ℤ) → Type 0
IsCausalChannel None = Unit {0}
IsCausalChannel (Some f) = GivesByLength f × IsCausal f

nothing_by_length : GivesByLength {A = ℤ} {B = ℤ} (λ x. [])
nothing_by_length x x' e = refl

group_causal : (taken given : ℕ) (result : List ℤ → ℕ → ℤ) → GivesByLength (each_group taken given result) ×
    IsCausal (each_group taken given result)
group_causal taken given result = (values_by_length (λ n. n / taken * given) _, each_group_causal taken given result)

live_channel_causal : (format : Fmt) (block : Block) → IsCausalChannel (live_channel format block)
live_channel_causal format (Conv taps) = (live_conv_by_length format taps, live_conv_causal format taps)
live_channel_causal format (ConvPartial first count taps) =
    (live_conv_partial_by_length format first count taps, live_conv_partial_causal format first count taps)
live_channel_causal format (Correlate taps) = (nothing_by_length, λ x more. ([], refl))
live_channel_causal format (Fir taps) = (values_by_length (λ n. n) _, fir_causal format taps)
live_channel_causal format (Sparse taps delays) = (
  values_by_length (λ n. n) _,
  sparse_causal format taps (map nat_abs delays),
)
live_channel_causal format (Decimate factor taps) = (
  values_by_length (λ n. n / factor) _,
  decimate_causal format factor taps,
)
live_channel_causal format (Interpolate factor taps) =
    (values_by_length (λ n. n * factor) _, interpolate_causal format factor taps)
live_channel_causal format (LatticeFir k) = (by_length (lattice_fir k) (length-lattice_fir k), lattice_fir_causal k)
live_channel_causal format (LatticeIir k v) = (
  by_length (lattice_iir format k v) (length-lattice_iir format k v),
  lattice_iir_causal format k v,
)
live_channel_causal format (Biquad p coefficients) = (
  by_length (biquad format p coefficients)
      (length-biquad format p coefficients),
  biquad_causal format p coefficients,
)
live_channel_causal format (Biquad64 p coefficients) =
    (by_length (biquad64 p coefficients) (length-biquad64 p coefficients), biquad64_causal p coefficients)
live_channel_causal format (Pid kp ki kd) = (
  by_length (pid format kp ki kd) (length-pid format kp ki kd),
  pid_causal format kp ki kd,
)
live_channel_causal format (MatAdd rows columns matrix) =
    group_causal (rows * columns) (rows * columns) (added format matrix)
live_channel_causal format (MatSub rows columns matrix) =
    group_causal (rows * columns) (rows * columns) (subtracted format matrix)
live_channel_causal format (MatScale rows columns fract shift) =
    group_causal (rows * columns) (rows * columns) (scaled format fract shift)
live_channel_causal format (MatTrans rows columns) = group_causal (rows * columns) (rows * columns)
    (transposed rows columns)
live_channel_causal format (MatMult rows columns given matrix) =
    group_causal (rows * columns) (rows * given) (multiplied columns given matrix)
live_channel_causal format _ = tt

-- ---- blocks that work on frames

same_causal : IsCausal (λ (x : List Frame). x)
same_causal x more = (more, refl)

by_frames_causal : (format : Fmt) (block : Block) → IsCausal (by_frames format block)
by_frames_causal format (Lms p mu taps) =
    causal_chain (λ x. lms format p mu taps (input_pairs x)) (map (λ (a : Adapted). a.output ∷ a.error ∷ []))
    (causal_chain input_pairs (lms format p mu taps) (map_causal _) (lms_causal format p mu taps)) (map_causal _)
by_frames_causal format Power = same_causal
by_frames_causal format Dot = same_causal
by_frames_causal format CmplxDot = same_causal
by_frames_causal format Max = same_causal
by_frames_causal format Min = same_causal
by_frames_causal format block = map_causal (given_frame format block)

-- ---- any block

live_causal : (format : Fmt) (channels : ℕ) (block : Block) → IsCausal (live format channels block)
live_causal format channels block = by_channel (live_channel format block) (live_channel_causal format block)
  where
    by_channel : (f : Option (List ℤ → List ℤ)) → IsCausalChannel f → IsCausal (applied format channels block f)
    by_channel None h = by_frames_causal format block
    by_channel (Some f) h = each_channel_begins f f h.0 h.1 channels

whole_begins : (format : Fmt) (channels : ℕ) (block : Block) (x more : List Frame) →
    Begins (live format channels block x) (whole format channels block (x ++ more))
whole_begins format channels (Conv taps) = each_channel_begins (live_conv format taps) (conv format taps)
    (live_conv_by_length format taps) (live_conv_begins format taps) channels
whole_begins format channels (ConvPartial first count taps) =
    each_channel_begins (live_conv_partial format first count taps) (conv_partial format first count taps)
    (live_conv_partial_by_length format first count taps) (live_conv_partial_begins format first count taps)
    channels
whole_begins format channels (Correlate taps) = each_channel_begins (λ x. []) (correlate format taps)
    nothing_by_length (λ x more. (correlate format taps (x ++ more), refl)) channels
whole_begins format channels block = live_causal format channels block

-- ---- chains

pub live_chain_causal : (format : Fmt) (channels : ℕ) (blocks : List Block) →
    IsCausal (live_chain format channels blocks)
live_chain_causal format channels [] = same_causal
live_chain_causal format channels (block ∷ blocks) =
    causal_chain (live format channels block) (live_chain (format_after format block) (channels_after channels block)
    blocks) (live_causal format channels block) (live_chain_causal (format_after format block)
    (channels_after channels block) blocks)

pub whole_chain_begins : (format : Fmt) (channels : ℕ) (blocks : List Block) (x more : List Frame) →
    Begins (live_chain format channels blocks x) (whole_chain format channels blocks (x ++ more))
whole_chain_begins format channels [] x more = (more, refl)
whole_chain_begins format channels (block ∷ blocks) x more =
    let (ys, e) = whole_begins format channels block x more in
    let (zs, e') = whole_chain_begins (format_after format block) (channels_after channels block) blocks
    (live format channels block x) ys in
    (zs, ap (whole_chain (format_after format block) (channels_after channels block) blocks) e ∙ e')
