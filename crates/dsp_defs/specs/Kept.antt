-- Kept numbers: all that a filter or a measure needs of the signal so far, in one order, and which numbers can be such.
use Rattle.std.specs.Prelude.{◌≡◌, ℕ, zero, suc, ◌+◌, ◌-◌, ◌*◌, ◌/◌, ◌%◌, ◌^◌, ◌≤◌, min, max, ℤ, pos, ◌≤ℤ◌, ◌<ℤ◌}
use Rattle.std.specs.Prelude.{FitsSigned, nat_abs, List, [], ◌∷◌, ◌++◌, map, fold, reverse, replicate, length, drop}
use Rattle.std.specs.Prelude.{flat_map, get_or, Option, Some, None, IfSome}
use Rattle.std.specs.List.{range_with_len}
use Rattle.dsp_defs.specs.Numbers.{Width, w32, w64}
use Rattle.dsp_defs.specs.Formats.{word, accumulator}
use Rattle.dsp_defs.specs.Signal.{sample, values, outputs}
use Rattle.dsp_defs.specs.Streaming.{last_of}
use Rattle.dsp_defs.specs.Lattice.{lattice_section, ladder_output}
use Rattle.dsp_defs.specs.Biquad.{Section, sections, biquad_section, biquad64_section, wide_output, fed_back}
use Rattle.dsp_defs.specs.Adaptive.{lms, weights_before, pid}
use Rattle.dsp_defs.specs.Measure.{power, dot, cmplx_dot_sums, cmplx_dot_close, maximum, minimum}
use Rattle.dsp_defs.specs.Block.{Frame, channel, input_pairs, live, format_after, channels_after}
use Rattle.dsp_defs.specs.Cost.{section_count}
use Rattle.dsp_defs.specs.Shape.{live_frames}
use Rattle.dsp_defs.specs.declared.limits.TheConstants.{MAX_GATHERED}
use Rattle.dsp_defs.specs.declared.format.Fmt.{Fmt}
use Rattle.dsp_defs.specs.declared.format.Fmt.TheVariants.{Q31}
use Rattle.dsp_defs.specs.declared.measure.Measure.{Measure}
use Rattle.dsp_defs.specs.declared.measure.Measure.TheVariants as Measures
use Rattle.dsp_defs.specs.declared.script.Block.{Block}
use Rattle.dsp_defs.specs.declared.script.Block.TheVariants.{Fir, Sparse, Decimate, Interpolate, LatticeFir}
use Rattle.dsp_defs.specs.declared.script.Block.TheVariants.{LatticeIir, Biquad, Biquad64, Conv, ConvPartial}
use Rattle.dsp_defs.specs.declared.script.Block.TheVariants.{Correlate, Lms, Pid, MatAdd, MatSub, MatScale, MatTrans}
use Rattle.dsp_defs.specs.declared.script.Block.TheVariants.{MatMult, Power, Dot, CmplxDot, Max, Min}

-- ---- what is kept

-- the last sample, the one before it, ..; 0 before the first
abbrev pub latest : List ℤ → ℕ → ℤ
latest x k = sample (reverse x) k

-- the samples of the open group
abbrev pub open_group : ℕ → List ℤ → List ℤ
open_group size x = drop (length x / size * size) x

-- whether there was a sample
abbrev pub flag : ℕ → ℕ
flag zero = 0
flag (suc n) = 1

-- the greatest delay
abbrev pub greatest : List ℤ → ℕ
greatest delays = fold max 0 (map nat_abs delays)

-- g_0, .., g_{S-1} at the last place of pairs (f, g)
abbrev pub lattice_kept : List ℤ → List (ℤ × ℤ) → List ℤ
lattice_kept [] pairs = []
lattice_kept (k ∷ ks) pairs = latest (map (λ (w : ℤ × ℤ). w.1) pairs) 0 ∷ lattice_kept ks (lattice_section pairs k)

-- g_0, .., g_{S-1} at the last place of x
abbrev pub ladder_kept : Fmt → List ℤ → List ℤ → List ℤ
ladder_kept format k x = reverse (drop 1 (get_or (reverse (outputs (ladder_output format k) x)) 0
    (replicate (suc (length k)) (pos 0))))

-- x1, x2, y1, y2 of each section
abbrev pub sections_kept : Fmt → ℕ → List Section → List ℤ → List ℤ
sections_kept format p [] x = []
sections_kept format p (c ∷ cs) x =
    let y = biquad_section format p x c in
    latest x 0 ∷ latest x 1 ∷ latest y 0 ∷ latest y 1 ∷ sections_kept format p cs y

-- x1, x2, Y1, Y2 of each section with the wide feedback
abbrev pub wide_sections_kept : ℕ → List Section → List ℤ → List ℤ
wide_sections_kept p [] x = []
wide_sections_kept p (c ∷ cs) x =
    let y = map (fed_back p) (outputs (wide_output p c) x) in
    latest x 0 ∷ latest x 1 ∷ latest y 0 ∷ latest y 1 ∷ wide_sections_kept p cs (biquad64_section p x c)

-- whether a sample was put, the extreme value, its index, and how many samples were put
abbrev pub extreme_kept : Option (ℤ × ℕ) → ℕ → List ℤ
extreme_kept None count = replicate 4 (pos 0)
extreme_kept (Some best) count = pos 1 ∷ best.0 ∷ pos best.1 ∷ pos count ∷ []

-- the last T-1 inputs, and w_0, .., w_{T-1} after them
abbrev pub lms_kept : Fmt → ℕ → ℤ → List ℤ → List (ℤ × ℤ) → List ℤ
lms_kept format p mu taps pairs =
    last_of (length taps - 1) (map (λ (s : ℤ × ℤ). s.0) pairs) ++ weights_before (reverse taps)
    (reverse (lms format p mu taps pairs))

-- what a filter or a measure of a block keeps of its channel x, from the oldest sample to the newest;
-- a phase, a flag or a length stands last
abbrev pub kept_of_channel : Fmt → Block → List ℤ → List ℤ
kept_of_channel format (Fir taps) x = last_of (length taps - 1) x
kept_of_channel format (Sparse taps delays) x = last_of (greatest delays) x
kept_of_channel format (Decimate factor taps) x = last_of (length taps + factor - 2) x ++ pos (length x % factor) ∷ []
kept_of_channel format (Interpolate factor taps) x = last_of (length taps / factor - 1) x
kept_of_channel format (LatticeFir k) x = lattice_kept k (map (λ a. (a, a)) x)
kept_of_channel format (LatticeIir k v) x = ladder_kept format k x
kept_of_channel format (Biquad p coefficients) x = sections_kept format p (sections format coefficients) x
kept_of_channel format (Biquad64 p coefficients) x = wide_sections_kept p (sections Q31 coefficients) x
kept_of_channel format (Conv taps) x = last_of (length taps - 1) x ++ pos (flag (length x)) ∷ []
kept_of_channel format (ConvPartial first count taps) x =
    last_of (length taps - 1) x ++ pos (min (length x) (first + count)) ∷ []
kept_of_channel format (Correlate taps) x = x
kept_of_channel format (Pid kp ki kd) x = latest x 0 ∷ latest x 1 ∷ latest (pid format kp ki kd x) 0 ∷ []
kept_of_channel format (MatAdd rows columns matrix) x = open_group (rows * columns) x
kept_of_channel format (MatSub rows columns matrix) x = open_group (rows * columns) x
kept_of_channel format (MatScale rows columns fract shift) x = open_group (rows * columns) x
kept_of_channel format (MatTrans rows columns) x = open_group (rows * columns) x
kept_of_channel format (MatMult rows columns given matrix) x = open_group (rows * columns) x
kept_of_channel format Power x = power format x ∷ []
kept_of_channel format Max x = extreme_kept (maximum x) (length x)
kept_of_channel format Min x = extreme_kept (minimum x) (length x)
kept_of_channel format block x = []

-- what a block keeps of the frames x: channel after channel, but for the blocks that have one filter or measure in all
abbrev pub kept_numbers : Fmt → ℕ → Block → List Frame → List ℤ
kept_numbers format channels (Lms p mu taps) x = lms_kept format p mu taps (input_pairs x)
kept_numbers format channels Dot x = dot format (channel 0 x) (channel 1 x) ∷ []
kept_numbers format channels CmplxDot x =
    let sums = cmplx_dot_sums format (channel 0 x) (channel 1 x) (channel 2 x) (channel 3 x) in
    sums.0 ∷ sums.1 ∷ []
kept_numbers format channels block x = flat_map (λ c. kept_of_channel format block (channel c x))
    (range_with_len 0 channels)

-- what a chain keeps of the frames x, block after block
abbrev pub kept_of_chain : Fmt → ℕ → List Block → List Frame → List ℤ
kept_of_chain format channels [] x = []
kept_of_chain format channels (block ∷ blocks) x =
    kept_numbers format channels block x ++ kept_of_chain (format_after format block) (channels_after channels block)
    blocks (live format channels block x)

-- ---- which numbers can be kept

-- a kept number is one of a width; or it is the phase, flag, length or count that the number of frames gives; or an
-- index below that number
pub data Kind : Type 0 where
  InWord : Width → Kind
  Fixed : ℕ → Kind
  Below : ℕ → Kind

-- a number of a kind
abbrev pub IsOfKind : Kind → ℤ → Type 0
IsOfKind (InWord width) z = FitsSigned width z
IsOfKind (Fixed n) z = z ≡ pos n
IsOfKind (Below n) z = (pos 0 ≤ℤ z) × (z <ℤ pos n)

-- the number is that which the number of frames gives, if it gives one
abbrev pub IsPlace : Kind → ℤ → Type 0
IsPlace (Fixed n) z = z ≡ pos n
IsPlace _ z = Unit {0}

-- a number for each kind
abbrev pub Each : (Kind → ℤ → Type 0) → List Kind → List ℤ → Type 0
Each P [] [] = Unit {0}
Each P (kind ∷ kinds) (z ∷ zs) = P kind z × Each P kinds zs
Each P _ _ = ⊥

-- so many numbers of a width
abbrev pub in_words : Width → ℕ → List Kind
in_words width count = replicate count (InWord width)

-- four numbers of an extreme of n samples: all are 0 where there is none
abbrev pub extreme_kinds : Fmt → ℕ → List Kind
extreme_kinds format zero = replicate 4 (Fixed 0)
extreme_kinds format (suc n) = Fixed 1 ∷ InWord (word format) ∷ Below (suc n) ∷ Fixed (suc n) ∷ []

-- the kinds of what a filter or a measure keeps of n frames
abbrev pub kinds_by : Fmt → Block → ℕ → List Kind
kinds_by format (Fir taps) n = in_words (word format) (length taps - 1)
kinds_by format (Sparse taps delays) n = in_words (word format) (greatest delays)
kinds_by format (Decimate factor taps) n = in_words (word format) (length taps + factor - 2) ++ Fixed (n % factor) ∷ []
kinds_by format (Interpolate factor taps) n = in_words (word format) (length taps / factor - 1)
kinds_by format (LatticeFir k) n = in_words (word format) (length k)
kinds_by format (LatticeIir k v) n = in_words (word format) (length k)
kinds_by format (Biquad p coefficients) n = in_words (word format) (4 * section_count format coefficients)
kinds_by format (Biquad64 p coefficients) n =
    flat_map (λ (_ : ℕ). in_words w32 2 ++ in_words w64 2) (range_with_len 0 (section_count Q31 coefficients))
kinds_by format (Conv taps) n = in_words (word format) (length taps - 1) ++ Fixed (flag n) ∷ []
kinds_by format (ConvPartial first count taps) n = in_words (word format) (length taps - 1) ++ Fixed
    (min n (first + count)) ∷ []
kinds_by format (Correlate taps) n = in_words (word format) n
kinds_by format (Lms p mu taps) n = in_words (word format) (length taps - 1 + length taps)
kinds_by format (Pid kp ki kd) n = in_words (word format) 3
kinds_by format (MatAdd rows columns matrix) n = in_words (word format) (n % (rows * columns))
kinds_by format (MatSub rows columns matrix) n = in_words (word format) (n % (rows * columns))
kinds_by format (MatScale rows columns fract shift) n = in_words (word format) (n % (rows * columns))
kinds_by format (MatTrans rows columns) n = in_words (word format) (n % (rows * columns))
kinds_by format (MatMult rows columns given matrix) n = in_words (word format) (n % (rows * columns))
kinds_by format Power n = in_words (accumulator format) 1
kinds_by format Dot n = in_words (accumulator format) 1
kinds_by format CmplxDot n = in_words (accumulator format) 2
kinds_by format Max n = extreme_kinds format n
kinds_by format Min n = extreme_kinds format n
kinds_by format block n = []

-- the kinds of what a block keeps of n frames, filter after filter
abbrev pub kept_kinds : Fmt → ℕ → Block → ℕ → List Kind
kept_kinds format channels (Lms p mu taps) n = kinds_by format (Lms p mu taps) n
kept_kinds format channels Dot n = kinds_by format Dot n
kept_kinds format channels CmplxDot n = kinds_by format CmplxDot n
kept_kinds format channels block n = flat_map (λ (_ : ℕ). kinds_by format block n) (range_with_len 0 channels)

-- how many numbers a block keeps of n frames
abbrev pub kept_count : Fmt → ℕ → Block → ℕ → ℕ
kept_count format channels block n = length (kept_kinds format channels block n)

-- the numbers are as many as n frames give, with the phase, flag, length and count that n frames give
abbrev pub HasPlace : Fmt → ℕ → Block → ℕ → List ℤ → Type 0
HasPlace format channels block n numbers = Each IsPlace (kept_kinds format channels block n) numbers

-- the most frames that a block can take, if it has a limit: a correlation gathers so many, and an extreme is found
-- among so many
abbrev pub limit_of : Block → Option ℕ
limit_of (Correlate taps) = Some MAX_GATHERED
limit_of Max = Some (2 ^ 62 - 1)
limit_of Min = Some (2 ^ 62 - 1)
limit_of block = None

-- a number of frames that a block can have taken
abbrev pub IsTaken : Block → ℕ → Type 0
IsTaken block n = IfSome (limit_of block) (λ limit. n ≤ limit)

-- the numbers are such that a block can keep them of n frames
abbrev pub FitsAfter : Fmt → ℕ → Block → ℕ → List ℤ → Type 0
FitsAfter format channels block n numbers = IsTaken block n × Each IsOfKind (kept_kinds format channels block n) numbers

-- and of some number of frames
abbrev pub Fits : Fmt → ℕ → Block → List ℤ → Type 0
Fits format channels block numbers = (n : ℕ) × FitsAfter format channels block n numbers

-- how many numbers the blocks keep of n frames, each of the live frames at its place
abbrev pub kept_count_of_chain : Fmt → ℕ → List Block → ℕ → ℕ
kept_count_of_chain format channels [] n = 0
kept_count_of_chain format channels (block ∷ blocks) n =
    kept_count format channels block n + kept_count_of_chain (format_after format block)
    (channels_after channels block) blocks (live_frames block n)

-- the numbers are such that the blocks can keep them of n frames, each of the live frames at its place
abbrev pub FitsBlocks : Fmt → ℕ → List Block → ℕ → List ℤ → Type 0
FitsBlocks format channels [] n numbers = numbers ≡ []
FitsBlocks format channels (block ∷ blocks) n numbers =
    (here later : List ℤ) × (numbers ≡ here ++ later) × FitsAfter format channels block n here
    × FitsBlocks (format_after format block) (channels_after channels block) blocks (live_frames block n) later

-- the least number of frames at which a block stands where n frames lead it
abbrev pub place_of : Block → ℕ → ℕ
place_of (Decimate factor taps) n = n % factor
place_of (Conv taps) n = flag n
place_of (ConvPartial first count taps) n = min n (first + count)
place_of (MatAdd rows columns matrix) n = n % (rows * columns)
place_of (MatSub rows columns matrix) n = n % (rows * columns)
place_of (MatScale rows columns fract shift) n = n % (rows * columns)
place_of (MatTrans rows columns) n = n % (rows * columns)
place_of (MatMult rows columns given matrix) n = n % (rows * columns)
place_of (Correlate taps) n = n
place_of Max n = n
place_of Min n = n
place_of block n = 0

-- the numbers are such that the filter of one channel can keep them of n samples
abbrev pub FitsChannel : Fmt → Block → ℕ → List ℤ → Type 0
FitsChannel format block n numbers = IsTaken block n × Each IsOfKind (kinds_by format block n) numbers

-- ---- measures of kept numbers

-- an extreme as it is kept: whether there is one, the value, its index, and how many samples there were
abbrev pub kept_extreme : List ℤ → Option (ℤ × ℕ)
kept_extreme (pos (suc flag) ∷ value ∷ index ∷ count) = Some (value, nat_abs index)
kept_extreme _ = None

-- the measures that a block's kept numbers give
abbrev pub kept_measures : Fmt → ℕ → ℕ → Block → List ℤ → List Measure
kept_measures format channels number Power kept = values channels (λ c. Measures.Power number c (sample kept c))
kept_measures format channels number Dot kept = Measures.Dot number (sample kept 0) ∷ []
kept_measures format channels number CmplxDot kept = Measures.CmplxDot number (cmplx_dot_close format (sample kept 0))
    (cmplx_dot_close format (sample kept 1)) ∷ []
kept_measures format channels number Max kept = values channels
    (λ c. Measures.Max number c (kept_extreme (drop (4 * c) kept)))
kept_measures format channels number Min kept = values channels
    (λ c. Measures.Min number c (kept_extreme (drop (4 * c) kept)))
kept_measures format channels number block kept = []
