-- How many frames a block and a chain give.
use Rattle.std.proofs.Common.{◌≡◌, ℕ, zero, suc, ◌*◌, ◌/◌, ℤ, Option, Some, None, List, [], ◌∷◌, length, refl, sym}
use Rattle.std.proofs.Common.{ap, ◌∙◌, arith, mul-one}
use Rattle.std.proofs.lemmas.Grind.{common_steps}
use Rattle.std.proofs.lemmas.List.{length-map}
use Rattle.dsp_defs.specs.Signal.{sample}
use Rattle.dsp_defs.specs.Adaptive.{Adapted, lms, lms_output}
use Rattle.dsp_defs.specs.Matrix.{each_group, added, subtracted, scaled, transposed, multiplied}
use Rattle.dsp_defs.specs.Block.{Frame, channel, each_channel, input_pairs, given_frame, by_frames, applied}
use Rattle.dsp_defs.specs.Block.{whole_channel, live_channel, whole, live, whole_chain, live_chain, format_after}
use Rattle.dsp_defs.specs.Block.{channels_after}
use Rattle.dsp_defs.specs.Shape.{whole_frames, live_frames, given_frames, frames_behind, frames_given, window_end}
use Rattle.dsp_defs.specs.Shape.{window_at, HasChannels}
use Rattle.dsp_defs.specs.declared.format.Fmt.{Fmt}
use Rattle.dsp_defs.specs.declared.script.Block.{Block}
use Rattle.dsp_defs.specs.declared.script.Block.TheVariants.{Fir, Sparse, Decimate, Interpolate, LatticeFir}
use Rattle.dsp_defs.specs.declared.script.Block.TheVariants.{LatticeIir, Biquad, Biquad64, Conv, ConvPartial}
use Rattle.dsp_defs.specs.declared.script.Block.TheVariants.{Correlate, Lms, Pid, MatAdd, MatSub, MatScale, MatTrans}
use Rattle.dsp_defs.specs.declared.script.Block.TheVariants.{MatMult, Power, Dot, CmplxDot, Max, Min}
use Rattle.dsp_defs.proofs.BlockLaws.{length-values, length-outputs, length-biquad, length-biquad64, length-pid}
use Rattle.dsp_defs.proofs.BlockLaws.{length-lattice_fir, length-lattice_iir, length-live_conv}
use Rattle.dsp_defs.proofs.BlockLaws.{length-live_conv_partial}

length-each_channel : (channels : ℕ) (f : List ℤ → List ℤ) (count : ℕ → ℕ) →
    ((x : List ℤ) → length (f x) ≡ count (length x)) → (x : List Frame) →
    length (each_channel (suc channels) f x) ≡ count (length x)
length-each_channel channels f count f_length x =
    length-values (length (f (channel 0 x))) _ ∙ f_length (channel 0 x) ∙
    ap count (length-map x (λ (v : Frame). sample v 0))

each_group_length : (taken given : ℕ) (result : List ℤ → ℕ → ℤ) (x : List ℤ) →
    length (each_group taken given result x) ≡ length x / taken * given
each_group_length taken given result x = length-values (length x / taken * given) _

-- what is given of a channel has the length that the channel's length gives; where none is, frames are given as they
-- are taken
abbrev pub IsCounted : Option (List ℤ → List ℤ) → (ℕ → ℕ) → Type 0
IsCounted None count = (n : ℕ) → count n ≡ n
IsCounted (Some f) count = (x : List ℤ) → length (f x) ≡ count (length x)

pub whole_channel_counted : (format : Fmt) (block : Block) → IsCounted (whole_channel format block) (whole_frames block)
whole_channel_counted format (Fir taps) = λ x. length-values (length x) _
whole_channel_counted format (Sparse taps delays) = λ x. length-values (length x) _
whole_channel_counted format (Decimate factor taps) = λ x. length-values (length x / factor) _ ∙
    sym (mul-one (length x / factor))
whole_channel_counted format (Interpolate factor taps) = λ x. length-values (length x * factor) _
whole_channel_counted format (LatticeFir k) = length-lattice_fir k
whole_channel_counted format (LatticeIir k v) = length-lattice_iir format k v
whole_channel_counted format (Biquad p coefficients) = length-biquad format p coefficients
whole_channel_counted format (Biquad64 p coefficients) = length-biquad64 p coefficients
whole_channel_counted format (Conv taps) = λ x. length-values _ _
whole_channel_counted format (ConvPartial first count taps) = λ x. length-values _ _
whole_channel_counted format (Correlate taps) = λ x. length-values _ _
whole_channel_counted format (Pid kp ki kd) = length-pid format kp ki kd
whole_channel_counted format (MatAdd rows columns matrix) =
    each_group_length (rows * columns) (rows * columns) (added format matrix)
whole_channel_counted format (MatSub rows columns matrix) =
    each_group_length (rows * columns) (rows * columns) (subtracted format matrix)
whole_channel_counted format (MatScale rows columns fract shift) =
    each_group_length (rows * columns) (rows * columns) (scaled format fract shift)
whole_channel_counted format (MatTrans rows columns) =
    each_group_length (rows * columns) (rows * columns) (transposed rows columns)
whole_channel_counted format (MatMult rows columns given matrix) =
    each_group_length (rows * columns) (rows * given) (multiplied columns given matrix)
whole_channel_counted format _ = λ n. refl

pub live_channel_counted : (format : Fmt) (block : Block) → IsCounted (live_channel format block) (live_frames block)
live_channel_counted format (Conv taps) = length-live_conv format taps
live_channel_counted format (ConvPartial first count taps) = length-live_conv_partial format first count taps
live_channel_counted format (Correlate taps) = λ x. refl
live_channel_counted format block = whole_channel_counted format block

length-by_frames : (format : Fmt) (block : Block) (x : List Frame) → length (by_frames format block x) ≡ length x
length-by_frames format (Lms p mu taps) x =
    length-map (lms format p mu taps (input_pairs x)) (λ (a : Adapted). a.output ∷ a.error ∷ [])
    ∙ length-outputs (lms_output format p mu _) (input_pairs x)
    ∙ length-map x (λ (f : Frame). (sample f 0, sample f 1))
length-by_frames format Power x = refl
length-by_frames format Dot x = refl
length-by_frames format CmplxDot x = refl
length-by_frames format Max x = refl
length-by_frames format Min x = refl
length-by_frames format block x = length-map x (given_frame format block)

-- on at least one channel
counted : (format : Fmt) (channels : ℕ) (block : Block) (f : Option (List ℤ → List ℤ)) (count : ℕ → ℕ) →
    IsCounted f count → (x : List Frame)
    → length (applied format (suc channels) block f x) ≡ count (length x)
counted format channels block None count h x = length-by_frames format block x ∙ sym (h (length x))
counted format channels block (Some f) count h x = length-each_channel channels f count h x

pub length-whole : (format : Fmt) (channels : ℕ) (block : Block) (x : List Frame) →
    length (whole format (suc channels) block x) ≡ whole_frames block (length x)
length-whole format channels block = counted format channels block (whole_channel format block) (whole_frames block)
    (whole_channel_counted format block)

pub length-live : (format : Fmt) (channels : ℕ) (block : Block) (x : List Frame) →
    length (live format (suc channels) block x) ≡ live_frames block (length x)
length-live format channels block = counted format channels block (live_channel format block) (live_frames block)
    (live_channel_counted format block)

-- ---- chains

pub length-whole_chain : (format : Fmt) (channels : ℕ) (blocks : List Block) (x : List Frame) →
    HasChannels channels blocks → length (whole_chain format channels blocks x) ≡ frames_behind whole_frames blocks
    (length x)
length-whole_chain format channels [] x h = refl
length-whole_chain format zero (block ∷ blocks) x h = absurd (omega (arith, h.0))
length-whole_chain format (suc channels) (block ∷ blocks) x h =
    length-whole_chain (format_after format block) (channels_after (suc channels) block) blocks
    (whole format (suc channels) block x) h.1
    ∙ ap (frames_behind whole_frames blocks) (length-whole format channels block x)

pub length-live_chain : (format : Fmt) (channels : ℕ) (blocks : List Block) (x : List Frame) →
    HasChannels channels blocks → length (live_chain format channels blocks x) ≡ frames_behind live_frames blocks
    (length x)
length-live_chain format channels [] x h = refl
length-live_chain format zero (block ∷ blocks) x h = absurd (omega (arith, h.0))
length-live_chain format (suc channels) (block ∷ blocks) x h =
    length-live_chain (format_after format block) (channels_after (suc channels) block) blocks
    (live format (suc channels) block x) h.1
    ∙ ap (frames_behind live_frames blocks) (length-live format channels block x)

-- ---- where no window ends past its convolution, all frames are there

pub whole_frames_are_given : (block : Block) (n : ℕ) → window_end block n ≡ None →
    whole_frames block n ≡ given_frames block n
whole_frames_are_given (ConvPartial first count taps) n h = grind (arith, common_steps)
whole_frames_are_given block n h = refl

pub window_cases : (block : Block) (blocks : List Block) (n : ℕ) → window_at (block ∷ blocks) n ≡ None →
    (window_end block n ≡ None) × (window_at blocks (whole_frames block n) ≡ None)
window_cases block blocks n h = grind (arith, common_steps)

pub frames_are_given : (blocks : List Block) (n : ℕ) → window_at blocks n ≡ None →
    frames_behind whole_frames blocks n ≡ frames_given blocks n
frames_are_given [] n h = refl
frames_are_given (block ∷ blocks) n h =
    let (here, later) = window_cases block blocks n h in
    frames_are_given blocks (whole_frames block n) later ∙
    ap (frames_given blocks) (whole_frames_are_given block n here)
