-- How many groups, frames and products there are, whatever the numbers in them.
use Rattle.std.proofs.Common.{◌≡◌, ◌≢◌, ◌∙◌, ap, sym, subst, ℕ, ◌-◌, ◌+◌, ◌*◌, ◌/◌, ◌%◌, ◌<◌, ◌≤◌, arith}
use Rattle.std.proofs.Common.{Fits, w64, ℤ, List, length, length-take-le}
use Rattle.std.proofs.Math.Nat.{mul-le-mul_right, mul-mod_right}
use Rattle.std.proofs.lemmas.Nat.{mul-add-lt, mul-le}
use Rattle.dsp_defs.specs.Counts.{Counts}
use Rattle.dsp_defs.specs.declared.format.Fmt.{Fmt}
use Rattle.dsp_defs.specs.declared.format.Fmt.TheVariants.{Q7, Q15, Q31}
use Rattle.dsp_defs.specs.declared.limits.TheConstants.{MAX_SAMPLES}
use Rattle.dsp_unit.specs.Unit.{frames_in, most_kept}
use Rattle.dsp_biquad.specs.Sections.{size_in}
use Rattle.dsp_filter.proofs.Places.{same-frame}
use Rattle.dsp_lanes.specs.Turns.{RisesWithin}

-- ---- groups of four numbers, one for each section of each channel

-- the group of a section of a channel is one of all
pub group-inside : (sections row i section : ℕ) → i < row → section < sections → i * sections + section < row * sections
group-inside sections row i section inside within = omega (arith, mul-add-lt i sections section row inside within)

-- and its numbers are within the list
four-inside : (sections row i section long : ℕ) → i < row → section < sections → long ≡ row * sections * 4
    → (i * sections + section) * 4 + 4 ≤ long
four-inside sections row i section long inside within whole =
    let group = group-inside sections row i section inside within in
    omega (arith, group, whole)

pub four-begins : (sections row i section long : ℕ) → i < row → section < sections → long ≡ row * sections * 4
    → (i * sections + section) * 4 < long
four-begins sections row i section long inside within whole =
    let four = four-inside sections row i section long inside within whole in
    omega (arith, four)

-- that of a channel before it is another
pub other-group : (sections j i section : ℕ) → section < sections → j < i
    → j * sections + section ≢ i * sections + section
other-group sections j i section within less same =
    let one = same-frame sections j i section section within within same in
    omega (arith, one, less)

-- a bank of 64 sections or fewer, and no more channels than fit, keeps few numbers
pub kept-few : (long channels sections : ℕ) → long ≡ channels * sections * 4 → channels < 256 → sections ≤ 64
    → long ≤ most_kept
kept-few long channels sections is below few =
    let all = mul-le channels sections 256 64 (omega (arith, below)) few in
    omega (arith, is, all)

-- a section has five numbers or more in a list, and those of section s stand within the list
five-or-more : (format : Fmt) (size : ℕ) → size ≡ size_in format → 5 ≤ size
five-or-more Q7 size is = omega (arith, is)
five-or-more Q15 size is = omega (arith, is)
five-or-more Q31 size is = omega (arith, is)

pub five-of : (format : Fmt) (size n : ℕ) → size ≡ size_in format → n ≡ size → 5 ≤ n
five-of format size n is same = subst (λ k. 5 ≤ k) (sym same) (five-or-more format size is)

pub at-least : (size k : ℕ) → 5 ≤ size → k ≤ 5 → k ≤ size
at-least size k five few = omega (arith, five, few)

pub last-inside : (size k long : ℕ) → 5 ≤ size → 1 ≤ k → long ≡ size → size - k < long
last-inside size k long five some is = omega (arith, five, some, is)

pub section-inside : (section size n long : ℕ) → n ≡ size → (section + 1) * size ≤ long → section * n + n ≤ long
section-inside section size n long same inside = subst (λ m. section * m + m ≤ long) (sym same) (omega (arith, inside))

-- as many numbers for each channel
pub for-each : (long row sections : ℕ) → long ≡ row * sections * 4 → long ≡ row * (4 * sections)
for-each long row sections is = omega (arith, is)

pub below-next : (n m : ℕ) → n + 1 ≡ m → n < m
below-next n m is = omega (arith, is)

-- ---- frames

-- the last two frames are within rows that have two frames more
pub newest-inside : (count row i long : ℕ) → i < row → long ≡ (count + 2) * row → (count + 1) * row + i < long
newest-inside count row i long inside is = omega (arith, inside, is)

pub second-inside : (count row i long : ℕ) → i < row → long ≡ (count + 2) * row → count * row + i < long
second-inside count row i long inside is = omega (arith, inside, is)

-- the samples of whole frames, of which a block has as many or more
pub whole-frames : (channels : ℕ) (frames : List ℤ) → length frames ≡ length (frames_in channels frames) * channels
    → length frames % channels ≡ 0
whole-frames channels frames whole =
    let count = length (frames_in channels frames) in
    let swap : count * channels ≡ channels * count = omega arith in
    ap (λ n. n % channels) (whole ∙ swap) ∙ mul-mod_right channels count

pub at-most : (channels capacity frames count : ℕ) → frames ≡ count * channels → count ≤ capacity
    → frames ≤ capacity * channels
at-most channels capacity frames count whole few = omega (arith, whole, mul-le-mul_right channels few)

pub ruleset frames = (whole-frames, length-take-le)

-- as many as a block has are within what has room for a block
pub has-room : (samples block room : ℕ) → samples ≤ block → block ≤ room → samples ≤ room
has-room samples block room few enough = omega (arith, few, enough)

pub as-many : (n m : ℕ) → n ≡ m → m ≤ n
as-many n m same = omega (arith, same)

-- rows with two frames more have room for the frames of a call and for what a section keeps
pub frames-fit : (frames capacity row long : ℕ) → frames ≤ capacity * row → long ≡ (capacity + 2) * row
    → frames + 2 * row ≤ long
frames-fit frames capacity row long few is = omega (arith, few, is)

-- what a unit has room for fits
pub room-fits : (samples : ℕ) → samples ≤ MAX_SAMPLES → Fits w64 samples
room-fits samples few = record { fits = omega (arith, few) }

-- whole parts are all that there is
pub whole-parts : (long size : ℕ) → long % size ≡ 0 → 1 ≤ size → long / size * size ≡ long
whole-parts long size whole some = omega (arith, whole, some)

-- ---- products and turns

-- of a call, by its samples
pub products-by_samples : (sections count row : ℕ) → sections * (count * (5 * row)) ≡ 5 * sections * (count * row)
products-by_samples sections count row = omega arith

-- and by its frames
pub turns-by_frames : (sections count turns : ℕ) → sections * (count * (5 * turns)) ≡ 5 * sections * count * turns
turns-by_frames sections count turns = omega arith

-- of no section
pub rises-none : (counts : Counts) (m t : ℕ) → RisesWithin counts counts (0 * m) (0 * t)
rises-none counts m t = record { multiplies_rise = omega arith; turns_within = omega arith }

-- and of one section more
pub rises-more : (before mid after : Counts) (s m t : ℕ) → RisesWithin before mid (s * m) (s * t)
    → RisesWithin mid after m t → RisesWithin before after ((s + 1) * m) ((s + 1) * t)
rises-more before mid after s m t so_far one = record {
  multiplies_rise = omega (arith, so_far.multiplies_rise, one.multiplies_rise);
  turns_within = omega (arith, so_far.turns_within, one.turns_within);
}
