-- What a chain costs: multiplies, and turns of loops. Blocks of frames are named in the turn bounds alone.
use Rattle.std.specs.Prelude.{ℕ, zero, suc, ◌+◌, ◌-◌, ◌*◌, ◌/◌, ◌%◌, max, min, ℤ, Bool, true, List, [], ◌∷◌, length}
use Rattle.std.specs.Int.{div_ceil}
use Rattle.dsp_defs.specs.Formats.{lanes}
use Rattle.dsp_defs.specs.Block.{format_after, channels_after}
use Rattle.dsp_defs.specs.Shape.{given_frames, live_frames}
use Rattle.dsp_defs.specs.declared.format.Fmt.{Fmt}
use Rattle.dsp_defs.specs.declared.format.Fmt.TheVariants.{Q15}
use Rattle.dsp_defs.specs.declared.script.Block.{Block}
use Rattle.dsp_defs.specs.declared.script.Block.TheVariants.{Scale, Mult, CmplxMult, CmplxMultReal, MagSquared, Fir}
use Rattle.dsp_defs.specs.declared.script.Block.TheVariants.{Sparse, Decimate, Interpolate, LatticeFir, LatticeIir}
use Rattle.dsp_defs.specs.declared.script.Block.TheVariants.{Biquad, Biquad64, Conv, ConvPartial, Correlate, Lms, Pid}
use Rattle.dsp_defs.specs.declared.script.Block.TheVariants.{MatScale, MatMult, Power, Dot, CmplxDot}

-- the number of sections in a list of biquad coefficients
abbrev pub section_count : Fmt → List ℤ → ℕ
section_count Q15 coefficients = length coefficients / 6
section_count _ coefficients = length coefficients / 5

-- the multiplies for n frames taken on c channels and n' frames given
abbrev pub block_cost : Fmt → ℕ → Block → ℕ → ℕ → ℕ
block_cost format c (Scale fract shift) n n' = c * n
block_cost format c Mult n n' = n
block_cost format c CmplxMult n n' = 4 * n
block_cost format c CmplxMultReal n n' = 2 * n
block_cost format c MagSquared n n' = 2 * n
block_cost format c (Fir taps) n n' = c * n * length taps
block_cost format c (Sparse taps delays) n n' = c * n * length taps
block_cost format c (Decimate factor taps) n n' = c * n' * length taps
block_cost format c (Interpolate factor taps) n n' = c * n * length taps
block_cost format c (LatticeFir k) n n' = c * n * (2 * length k)
block_cost format c (LatticeIir k v) n n' = c * n * (3 * length k + 1)
block_cost format c (Biquad post_shift coefficients) n n' = c * n * (5 * section_count format coefficients)
block_cost format c (Biquad64 post_shift coefficients) n n' = c * n * (5 * section_count format coefficients)
block_cost format c (Conv taps) n n' = c * n' * length taps
block_cost format c (ConvPartial first count taps) n n' = c * n' * length taps
block_cost format c (Correlate taps) n n' = c * n * length taps
block_cost format c (Lms post_shift mu taps) n n' = n * (2 * length taps + 1)
block_cost format c (Pid kp ki kd) n n' = c * n * 3
block_cost format c (MatScale rows columns fract shift) n n' = c * n'
block_cost format c (MatMult rows columns given matrix) n n' = c * (n / (rows * columns)) * rows * columns * given
block_cost format c Power n n' = c * n
block_cost format c Dot n n' = n
block_cost format c CmplxDot n n' = 4 * n
block_cost format c _ n n' = 0

-- the cost of a block for n frames of a whole signal
abbrev pub whole_block_cost : Fmt → ℕ → Block → ℕ → ℕ
whole_block_cost format c block n = block_cost format c block n (given_frames block n)

-- and for n frames of one that may go on; the products of a correlation all come at its end
abbrev pub live_block_cost : Fmt → ℕ → Block → ℕ → ℕ
live_block_cost format c (Correlate taps) n = 0
live_block_cost format c block n = block_cost format c block n (live_frames block n)

-- the cost of a chain for n frames of a whole signal: the sum over its blocks
abbrev pub cost : Fmt → ℕ → List Block → ℕ → ℕ
cost format c [] n = 0
cost format c (block ∷ blocks) n =
    whole_block_cost format c block n + cost (format_after format block) (channels_after c block) blocks
    (given_frames block n)

-- and for n frames of one that may go on
abbrev pub live_cost : Fmt → ℕ → List Block → ℕ → ℕ
live_cost format c [] n = 0
live_cost format c (block ∷ blocks) n =
    live_block_cost format c block n + live_cost (format_after format block) (channels_after c block) blocks
    (live_frames block n)

-- ---- what is left to do

-- the products in the values c(0), .., c(given-1) of a correlation of n and t numbers: the places k < n with 0 <=
-- k-(i-(m-1)) < t
abbrev pub correlation_products : ℕ → ℕ → ℕ → ℕ
correlation_products n t zero = 0
correlation_products n t (suc i) =
    let m = max n t in
    correlation_products n t i + (min n (t + i + 1 - m) - (i + 1 - m))

-- the cost of the samples that a block has taken and given so far, of n frames in all
abbrev pub cost_so_far : Fmt → ℕ → Block → ℕ → ℕ → ℕ → ℕ
cost_so_far format c (Correlate taps) n taken given = c * correlation_products n (length taps) given
cost_so_far format c block n taken given = block_cost format c block taken given

-- what a block's cost for n frames has left where it has taken and given so many
abbrev pub block_rest : Fmt → ℕ → Block → ℕ → ℕ → ℕ → ℕ
block_rest format c block n taken given = whole_block_cost format c block n - cost_so_far format c block n taken given

-- what the cost of a chain has left after n frames, before its tail is begun
abbrev pub rest : Fmt → ℕ → List Block → ℕ → ℕ
rest format c blocks n = cost format c blocks n - live_cost format c blocks n

-- ---- turns of loops

-- floor(n/W) + n mod W: the turns of a loop over n elements by W lanes
abbrev pub lane_turns : Fmt → ℕ → ℕ
lane_turns format n = n / lanes format + n % lanes format

-- the turn bound of a call in which a block goes from m to n live frames taken
abbrev pub block_turns : Fmt → ℕ → Block → ℕ → ℕ → ℕ
block_turns format c (Fir taps) m n = c * length taps * lane_turns format (n - m)
block_turns format c (Sparse taps delays) m n = c * length taps * lane_turns format (n - m)
block_turns format c (Conv taps) m n = c * length taps * lane_turns format
    (live_frames (Conv taps) n - live_frames (Conv taps) m)
block_turns format c (Interpolate factor taps) m n = c * length taps * lane_turns format (n - m)
block_turns format c (Decimate factor taps) m n = c * (n / factor - m / factor) * lane_turns format (length taps)
block_turns format c block m n = live_block_cost format c block n - live_block_cost format c block m

-- the same of a unit, which may be banked: a bank of biquads works on all channels of a frame at once
abbrev pub unit_turns : Bool → Fmt → ℕ → Block → ℕ → ℕ → ℕ
unit_turns true format c (Biquad post_shift coefficients) m n =
    5 * section_count format coefficients * (n - m) * lane_turns format c
unit_turns banked format c block m n = block_turns format c block m n

-- the turn bound of a call in which a chain, banked or not, goes from m to n input frames: the sum over its blocks
abbrev pub chain_turns : Bool → Fmt → ℕ → List Block → ℕ → ℕ → ℕ
chain_turns banked format c [] m n = 0
chain_turns banked format c (block ∷ blocks) m n =
    unit_turns banked format c block m n
    + chain_turns banked (format_after format block) (channels_after c block) blocks (live_frames block m)
    (live_frames block n)

-- the sum over the first calls of a run of n frames, each of `size` frames but for a shorter last one
abbrev pub turns_of_calls : Bool → Fmt → ℕ → List Block → ℕ → ℕ → ℕ → ℕ
turns_of_calls banked format c blocks size n zero = 0
turns_of_calls banked format c blocks size n (suc i) =
    turns_of_calls banked format c blocks size n i + chain_turns banked format c blocks (i * size)
    (min (suc i * size) n)

-- the turn bound of a whole run of n frames by calls of `size` frames
abbrev pub turns : Bool → Fmt → ℕ → List Block → ℕ → ℕ → ℕ
turns banked format c blocks size n = rest format c blocks n + turns_of_calls banked format c blocks size n
    (div_ceil n size)
