-- The shape of a chain: its frames, its output rate, its unit and its legal block lengths.
use Rattle.std.specs.Prelude.{ℕ, zero, suc, ◌+◌, ◌-◌, ◌*◌, ◌/◌, ◌%◌, ◌^◌, ◌<◌, max, min, Bool, ◌&&◌, nat_eq, nat_lt}
use Rattle.std.specs.Prelude.{nat_le, if◌then◌else◌, List, [], ◌∷◌, length, Option, Some, None, IfSome, fold, ◌≡◌}
use Rattle.std.specs.Int.{div_ceil}
use Rattle.dsp_defs.specs.Sums.{full_length}
use Rattle.dsp_defs.specs.Block.{channels_after}
use Rattle.dsp_defs.specs.declared.limits.TheConstants.{MAX_BLOCK_LENGTH, MAX_SAMPLES, DEFAULT_BLOCK_LENGTH}
use Rattle.dsp_defs.specs.declared.script.Block.{Block}
use Rattle.dsp_defs.specs.declared.script.Block.TheVariants.{Decimate, Interpolate, Conv, ConvPartial, Correlate}
use Rattle.dsp_defs.specs.declared.script.Block.TheVariants.{MatAdd, MatSub, MatScale, MatTrans, MatMult}

-- ---- groups

-- a block that works on groups takes .0 frames for each group and gives .1
abbrev pub group_of : Block → Option (ℕ × ℕ)
group_of (Decimate factor taps) = Some (factor, 1)
group_of (MatAdd rows columns matrix) = Some (rows * columns, rows * columns)
group_of (MatSub rows columns matrix) = Some (rows * columns, rows * columns)
group_of (MatScale rows columns fract shift) = Some (rows * columns, rows * columns)
group_of (MatTrans rows columns) = Some (rows * columns, rows * columns)
group_of (MatMult rows columns given matrix) = Some (rows * columns, rows * given)
group_of _ = None

-- floor(n/g) * r for groups of g that give r; a last group that is not whole gives nothing
abbrev pub groups_after : Option (ℕ × ℕ) → ℕ → ℕ
groups_after None n = n
groups_after (Some g) n = n / g.0 * g.1

-- ---- frames

-- the frames that a block gives of n frames, where `conv`, `conv_partial` and `correlate` count as giving as many as
-- they take:
-- n*L of an interpolator, whole groups of a decimator or a matrix block, and n of every other
abbrev pub steady_frames : Block → ℕ → ℕ
steady_frames (Interpolate factor taps) n = n * factor
steady_frames block n = groups_after (group_of block) n

-- the values of a correlation: 2*max(N,T)-1, or 0 where N is 0
abbrev pub correlation_length : ℕ → ℕ → ℕ
correlation_length n t = if nat_eq n 0 then 0 else (2 * max n t - 1)

-- the frames that a block is to give of n frames: N+T-1 of `conv`, `count` of `conv_partial`, 2*max(N,T)-1 of
-- `correlate`
abbrev pub given_frames : Block → ℕ → ℕ
given_frames (Conv taps) n = full_length n (length taps)
given_frames (ConvPartial first count taps) n = count
given_frames (Correlate taps) n = correlation_length n (length taps)
given_frames block n = steady_frames block n

-- the length of what a block gives of a whole signal: that number, where `conv_partial` ends with the full convolution
abbrev pub whole_frames : Block → ℕ → ℕ
whole_frames (ConvPartial first count taps) n = min count (full_length n (length taps) - first)
whole_frames block n = given_frames block n

-- the length of what it has given of a signal that may go on: the values of a convolution with index below n, and
-- none of a correlation
abbrev pub live_frames : Block → ℕ → ℕ
live_frames (Conv taps) n = min n (whole_frames (Conv taps) n)
live_frames (ConvPartial first count taps) n = min (n - first) (whole_frames (ConvPartial first count taps) n)
live_frames (Correlate taps) n = 0
live_frames block n = steady_frames block n

-- the frames behind a chain
abbrev pub frames_behind : (Block → ℕ → ℕ) → List Block → ℕ → ℕ
frames_behind gives [] n = n
frames_behind gives (block ∷ blocks) n = frames_behind gives blocks (gives block n)

-- the frames that a chain is to give of n frames
abbrev pub frames_given : List Block → ℕ → ℕ
frames_given = frames_behind given_frames

-- the frames at the place of `correlate`, or 0 without one
abbrev pub frames_at_correlate : (Block → ℕ → ℕ) → List Block → ℕ → ℕ
frames_at_correlate gives [] n = 0
frames_at_correlate gives (Correlate taps ∷ blocks) n = n
frames_at_correlate gives (block ∷ blocks) n = frames_at_correlate gives blocks (gives block n)

-- the length of the whole signal at the place of `correlate`, the tails before it included
abbrev pub gathered : List Block → ℕ → ℕ
gathered = frames_at_correlate whole_frames

-- the length of the live signal there
abbrev pub held : List Block → ℕ → ℕ
held = frames_at_correlate live_frames

-- the window of a partial convolution that ends past the full one: its end first+count, and the full length
abbrev pub window_end : Block → ℕ → Option (ℕ × ℕ)
window_end (ConvPartial first count taps) n =
    let full = full_length n (length taps) in
    if nat_lt full (first + count) then Some (first + count, full) else None
window_end _ n = None

-- the first such window of a chain
abbrev pub window_at : List Block → ℕ → Option (ℕ × ℕ)
window_at [] n = None
window_at (block ∷ blocks) n = elim (window_end block n)
    [ Some w ↦ Some w | None ↦ window_at blocks (whole_frames block n) ]

-- there are channels at each place
abbrev pub HasChannels : ℕ → List Block → Type 0
HasChannels channels [] = 0 < channels
HasChannels channels (block ∷ blocks) = (0 < channels) × HasChannels (channels_after channels block) blocks

-- ---- the rate

-- min(rate*L, 2^32 - 1) behind an interpolator, floor(rate/M) behind a decimator
abbrev pub rate_after : ℕ → Block → ℕ
rate_after rate (Interpolate factor taps) = min (rate * factor) (2 ^ 32 - 1)
rate_after rate (Decimate factor taps) = rate / factor
rate_after rate _ = rate

-- ---- the unit

-- Euclid's algorithm, in at most so many steps
abbrev pub euclid : ℕ → ℕ → ℕ → ℕ
euclid zero a b = a
euclid (suc steps) a zero = a
euclid (suc steps) a (suc b) = euclid steps (suc b) (a % suc b)

-- the greatest common divisor of a and b
abbrev pub gcd : ℕ → ℕ → ℕ
gcd a b = euclid (suc b) a b

-- the unit so far, and the frames that so many input frames give here
pub record Pace : Type 0 where
  pub unit : ℕ
  pub frames : ℕ

-- u*k and (f*k/g)*r with k = g/gcd(f,g), for groups of g that give r
abbrev pub grouped_pace : Pace → Option (ℕ × ℕ) → Pace
grouped_pace pace None = pace
grouped_pace pace (Some g) =
    let k = g.0 / gcd pace.frames g.0 in
    record { unit = pace.unit * k; frames = pace.frames * k / g.0 * g.1 }

-- f*L behind an interpolator
abbrev pub pace_after : Pace → Block → Pace
pace_after pace (Interpolate factor taps) = record { unit = pace.unit; frames = pace.frames * factor }
pace_after pace block = grouped_pace pace (group_of block)

-- the least number of input frames at which each group is whole
abbrev pub whole_unit : List Block → ℕ
whole_unit blocks = (fold pace_after (record { unit = 1; frames = 1 }) blocks).unit

-- a number of frames is whole groups, for groups of g.0
abbrev pub AreWholeGroups : Option (ℕ × ℕ) → ℕ → Type 0
AreWholeGroups None n = Unit {0}
AreWholeGroups (Some g) n = n % g.0 ≡ 0

-- each group of each block is whole when n frames come
abbrev pub GroupsAreWhole : List Block → ℕ → Type 0
GroupsAreWhole [] n = Unit {0}
GroupsAreWhole (block ∷ blocks) n = AreWholeGroups (group_of block) n × GroupsAreWhole blocks (steady_frames block n)

-- a group of each block has at least one frame
abbrev pub HasGroups : List Block → Type 0
HasGroups [] = Unit {0}
HasGroups (block ∷ blocks) = IfSome (group_of block) (λ g. 0 < g.0) × HasGroups blocks

-- ---- block lengths

-- at each place the samples of a block of n frames are within the limit
abbrev pub fits_everywhere : ℕ → List Block → ℕ → Bool
fits_everywhere channels [] n = nat_le (n * channels) MAX_SAMPLES
fits_everywhere channels (block ∷ blocks) n =
    nat_le (n * channels) MAX_SAMPLES && fits_everywhere (channels_after channels block) blocks (steady_frames block n)

-- in 1..65,536, a multiple of the unit, and within the limit of samples at each place
abbrev pub is_legal : ℕ → List Block → ℕ → Bool
is_legal channels blocks length =
    nat_le 1 length && nat_le length MAX_BLOCK_LENGTH && nat_eq (length % whole_unit blocks) 0 && fits_everywhere
    channels blocks length

-- the unit, or 0 where no block length is legal
abbrev pub unit : ℕ → List Block → ℕ
unit channels blocks = if is_legal channels blocks (whole_unit blocks) then whole_unit blocks else 0

-- the least multiple of the unit that is at least 256, where it is legal, else the unit
abbrev pub default_block : ℕ → List Block → ℕ
default_block channels blocks =
    let u = whole_unit blocks in
    let length = div_ceil DEFAULT_BLOCK_LENGTH u * u in
    if is_legal channels blocks length then length else unit channels blocks
