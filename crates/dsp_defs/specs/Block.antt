-- What a block and a chain give of a signal: of the whole one, and while it goes on.
use Rattle.std.specs.Prelude.{ℕ, ◌+◌, ◌-◌, ◌*◌, ◌/◌, ℤ, List, [], ◌∷◌, map, length, take, get_or, nat_abs, Option}
use Rattle.std.specs.Prelude.{Some, None}
use Rattle.dsp_defs.specs.Signal.{sample, values}
use Rattle.dsp_defs.specs.Elementwise
use Rattle.dsp_defs.specs.Complex.{cmplx_conj, cmplx_mult, cmplx_mult_real, cmplx_mag_squared}
use Rattle.dsp_defs.specs.Sums.{fir, sparse, decimate, interpolate, conv, conv_partial, correlate}
use Rattle.dsp_defs.specs.Lattice.{lattice_fir, lattice_iir}
use Rattle.dsp_defs.specs.Biquad.{biquad, biquad64}
use Rattle.dsp_defs.specs.Adaptive.{Adapted, lms, pid}
use Rattle.dsp_defs.specs.Matrix.{mat_add, mat_sub, mat_scale, mat_trans, mat_mult}
use Rattle.dsp_defs.specs.declared.format.Fmt.{Fmt}
use Rattle.dsp_defs.specs.declared.script.Block.{Block}
use Rattle.dsp_defs.specs.declared.script.Block.TheVariants.{Offset, Negate, Abs, Scale, Shift, Clip, To, Add, Sub}
use Rattle.dsp_defs.specs.declared.script.Block.TheVariants.{Mult, Conj, CmplxMult, CmplxMultReal, MagSquared, Fir}
use Rattle.dsp_defs.specs.declared.script.Block.TheVariants.{Sparse, Decimate, Interpolate, LatticeFir, LatticeIir}
use Rattle.dsp_defs.specs.declared.script.Block.TheVariants.{Biquad, Biquad64, Conv, ConvPartial, Correlate, Lms, Pid}
use Rattle.dsp_defs.specs.declared.script.Block.TheVariants.{MatAdd, MatSub, MatScale, MatTrans, MatMult, Power, Dot}
use Rattle.dsp_defs.specs.declared.script.Block.TheVariants.{CmplxDot, Max, Min, Route}

-- a frame has one sample of each channel, and a signal is the list of its frames
abbrev pub Frame : Type 0
Frame = List ℤ

-- x of channel c
abbrev pub channel : ℕ → List Frame → List ℤ
channel c x = map (λ frame. sample frame c) x

-- the frames of channels that are equally long
abbrev pub frames_of : List (List ℤ) → List Frame
frames_of channels = values (length (get_or channels 0 [])) (λ n. map (λ samples. sample samples n) channels)

-- the frames of samples that stand frame by frame
unfoldable pub frames_in : ℕ → List ℤ → List Frame
frames_in channels samples = values (length samples / channels)
    (λ n. values channels (λ c. sample samples (n * channels + c)))

-- one function for each channel
abbrev pub each_channel : ℕ → (List ℤ → List ℤ) → List Frame → List Frame
each_channel channels f x = frames_of (values channels (λ c. f (channel c x)))

-- the input and the reference of an adaptive filter
abbrev pub input_pairs : List Frame → List (ℤ × ℤ)
input_pairs x = map (λ f. (sample f 0, sample f 1)) x

-- a frame of two samples
abbrev pub pair_frame : ℤ × ℤ → Frame
pair_frame p = p.0 ∷ p.1 ∷ []

-- and of one
abbrev pub one_sample : ℤ → Frame
one_sample a = a ∷ []

-- the format behind a block
abbrev pub format_after : Fmt → Block → Fmt
format_after before (To format) = format
format_after before _ = before

-- the number of channels behind it
abbrev pub channels_after : ℕ → Block → ℕ
channels_after before Add = 1
channels_after before Sub = 1
channels_after before Mult = 1
channels_after before CmplxMult = 2
channels_after before CmplxMultReal = 2
channels_after before MagSquared = 1
channels_after before (Route channels) = length channels
channels_after before _ = before

-- ---- what one block gives

-- what a convolution has given of a signal of n samples that may go on: y(0), .., y(n-1)
abbrev pub live_conv : Fmt → List ℤ → List ℤ → List ℤ
live_conv format taps x = take (length x) (conv format taps x)

-- and its window: those with index below n
abbrev pub live_conv_partial : Fmt → ℕ → ℕ → List ℤ → List ℤ → List ℤ
live_conv_partial format first count taps x = take (length x - first) (conv_partial format first count taps x)

-- what a block gives of one whole channel, if it works on each channel by itself
abbrev pub whole_channel : Fmt → Block → Option (List ℤ → List ℤ)
whole_channel format (Fir taps) = Some (fir format taps)
whole_channel format (Sparse taps delays) = Some (sparse format taps (map nat_abs delays))
whole_channel format (Decimate factor taps) = Some (decimate format factor taps)
whole_channel format (Interpolate factor taps) = Some (interpolate format factor taps)
whole_channel format (LatticeFir k) = Some (lattice_fir k)
whole_channel format (LatticeIir k v) = Some (lattice_iir format k v)
whole_channel format (Biquad post_shift coefficients) = Some (biquad format post_shift coefficients)
whole_channel format (Biquad64 post_shift coefficients) = Some (biquad64 post_shift coefficients)
whole_channel format (Conv taps) = Some (conv format taps)
whole_channel format (ConvPartial first count taps) = Some (conv_partial format first count taps)
whole_channel format (Correlate taps) = Some (correlate format taps)
whole_channel format (Pid kp ki kd) = Some (pid format kp ki kd)
whole_channel format (MatAdd rows columns matrix) = Some (mat_add format rows columns matrix)
whole_channel format (MatSub rows columns matrix) = Some (mat_sub format rows columns matrix)
whole_channel format (MatScale rows columns fract shift) = Some (mat_scale format rows columns fract shift)
whole_channel format (MatTrans rows columns) = Some (mat_trans rows columns)
whole_channel format (MatMult rows columns given matrix) = Some (mat_mult rows columns given matrix)
whole_channel format _ = None

-- what it has given of a channel that may go on: the same, but that convolutions give what has an index below n, and
-- a correlation nothing
abbrev pub live_channel : Fmt → Block → Option (List ℤ → List ℤ)
live_channel format (Conv taps) = Some (live_conv format taps)
live_channel format (ConvPartial first count taps) = Some (live_conv_partial format first count taps)
live_channel format (Correlate taps) = Some (λ x. [])
live_channel format block = whole_channel format block

-- the frame that a block without memory gives of a frame
abbrev pub given_frame : Fmt → Block → Frame → Frame
given_frame format (Offset value) f = map (λ a. Elementwise.add format a value) f
given_frame format Negate f = map (Elementwise.negate format) f
given_frame format Abs f = map (Elementwise.abs format) f
given_frame format (Scale fract shift) f = map (Elementwise.scale format fract shift) f
given_frame format (Shift shift) f = map (Elementwise.shift format shift) f
given_frame format (Clip low high) f = map (Elementwise.clip low high) f
given_frame format (To target) f = map (Elementwise.convert format target) f
given_frame format Add f = one_sample (Elementwise.add format (sample f 0) (sample f 1))
given_frame format Sub f = one_sample (Elementwise.sub format (sample f 0) (sample f 1))
given_frame format Mult f = one_sample (Elementwise.mult format (sample f 0) (sample f 1))
given_frame format Conj f = pair_frame (cmplx_conj format (sample f 0) (sample f 1))
given_frame format CmplxMult f = pair_frame (cmplx_mult format (sample f 0) (sample f 1) (sample f 2) (sample f 3))
given_frame format CmplxMultReal f = pair_frame (cmplx_mult_real (sample f 0) (sample f 1) (sample f 2))
given_frame format MagSquared f = one_sample (cmplx_mag_squared format (sample f 0) (sample f 1))
given_frame format (Route list) f = map (λ c. sample f (nat_abs c)) list
given_frame format _ f = f

-- what a block gives that works on whole frames; a measure passes them on
abbrev pub by_frames : Fmt → Block → List Frame → List Frame
by_frames format (Lms post_shift mu taps) x = map (λ (a : Adapted). a.output ∷ a.error ∷ [])
    (lms format post_shift mu taps (input_pairs x))
by_frames format Power x = x
by_frames format Dot x = x
by_frames format CmplxDot x = x
by_frames format Max x = x
by_frames format Min x = x
by_frames format block x = map (given_frame format block) x

-- a block by what it gives of a channel, or else of the frames
abbrev pub applied : Fmt → ℕ → Block → Option (List ℤ → List ℤ) → List Frame → List Frame
applied format channels block (Some f) x = each_channel channels f x
applied format channels block None x = by_frames format block x

-- what a block gives of a whole signal
abbrev pub whole : Fmt → ℕ → Block → List Frame → List Frame
whole format channels block x = applied format channels block (whole_channel format block) x

-- what it has given of a signal that may go on
abbrev pub live : Fmt → ℕ → Block → List Frame → List Frame
live format channels block x = applied format channels block (live_channel format block) x

-- ---- chains

-- a chain is the composition of its blocks
abbrev pub chain_by : (Fmt → ℕ → Block → List Frame → List Frame) → Fmt → ℕ → List Block → List Frame → List Frame
chain_by gives format channels [] x = x
chain_by gives format channels (block ∷ blocks) x =
    chain_by gives (format_after format block) (channels_after channels block) blocks (gives format channels block x)

-- of a whole signal
abbrev pub whole_chain : Fmt → ℕ → List Block → List Frame → List Frame
whole_chain = chain_by whole

-- and of one that may go on
abbrev pub live_chain : Fmt → ℕ → List Block → List Frame → List Frame
live_chain = chain_by live
