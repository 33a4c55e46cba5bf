-- What a block's word is followed by: numbers in their ranges, lists under their rules, formats.
use Rattle.std.specs.Prelude.{◌≡◌, ◌≢◌, ℕ, ℤ, pos, negsuc, ◌-◌, ◌*◌, ◌%◌, ◌==◌, ◌&&◌, ◌≤◌, ◌≤ℤ◌, nat_le, Bool, IsTrue}
use Rattle.std.specs.Prelude.{List, [], ◌∷◌, length}
use Rattle.std.specs.List.{AllByRecursion}
use Rattle.dsp_defs.specs.declared.limits.TheConstants.{MAX_TAPS, MAX_SECTIONS, MAX_LATTICE_SECTIONS, MAX_DELAY}
use Rattle.dsp_defs.specs.declared.limits.TheConstants.{MAX_FACTOR, MAX_MATRIX_SIDE, MAX_CHANNELS}
use Rattle.dsp_defs.specs.declared.format.Fmt.{Fmt}
use Rattle.dsp_defs.specs.declared.format.Fmt.TheVariants.{Q7, Q15, Q31}
use Rattle.dsp_defs.specs.declared.script.Block.{Block}
use Rattle.dsp_defs.specs.declared.flow.Flow.{Flow}
use Rattle.dsp_defs.specs.declared.list_rule.Count.{Count}
use Rattle.dsp_defs.specs.declared.list_rule.Count.TheVariants.{MultipleOf, AtLeast}
use Rattle.dsp_defs.specs.declared.list_rule.ListRule.{ListRule}

-- ---- ranges

-- the ends of a format's word
abbrev pub least : Fmt → ℤ
least Q7 = negsuc 127
least Q15 = negsuc 32767
least Q31 = negsuc 2147483647

-- 127, 32767, 2^31 - 1
abbrev pub greatest : Fmt → ℤ
greatest Q7 = pos 127
greatest Q15 = pos 32767
greatest Q31 = pos 2147483647

-- the post shift of `biquad`: 0..13 in Q15, 0..30 in Q31
abbrev pub greatest_biquad_shift : Fmt → ℕ
greatest_biquad_shift Q31 = 30
greatest_biquad_shift f = 13

-- the post shift of `lms`: 0..14 in Q15, 0..30 in Q31
abbrev pub greatest_lms_shift : Fmt → ℕ
greatest_lms_shift Q31 = 30
greatest_lms_shift f = 14

-- low <= n <= high
abbrev pub IsBetween : (low high n : ℤ) → Type 0
IsBetween low high n = (low ≤ℤ n) × (n ≤ℤ high)

-- ---- rules of lists

-- a list may end at a count
abbrev pub is_complete : Count → ℕ → Bool
is_complete (MultipleOf factor) count = nat_le 1 count && count % factor == 0
is_complete (AtLeast wanted) count = nat_le wanted count

-- the number that a fault of the count names
abbrev pub factor_of : Count → ℕ
factor_of (MultipleOf factor) = factor
factor_of (AtLeast wanted) = wanted

-- each number is in range, the count is complete, and the limit is kept
pub record IsWithin (rule : ListRule) (numbers : List ℤ) : Type 0 where
  pub each : AllByRecursion (IsBetween rule.low rule.high) numbers
  pub count : IsTrue (is_complete rule.count (length numbers))
  pub limit : length numbers ≤ rule.limit

-- numbers of the format's word
abbrev pub coefficients : Flow → ℕ → Count → ListRule
coefficients flow limit count = record {
  low = least flow.format;
  high = greatest flow.format;
  limit = limit;
  count =
      count;
}

-- some taps, as many as a multiple
abbrev pub taps : Flow → ℕ → ListRule
taps flow factor = coefficients flow MAX_TAPS (MultipleOf factor)

-- two taps or more
abbrev pub sparse_taps : Flow → ListRule
sparse_taps flow = coefficients flow MAX_TAPS (AtLeast 2)

-- one delay for each tap
abbrev pub delays : ℕ → ListRule
delays count = record { low = pos 0; high = pos MAX_DELAY; limit = count; count = AtLeast count }

-- the numbers of a biquad section; the second of six isn't used
abbrev pub section_length : Fmt → ℕ
section_length Q31 = 5
section_length f = 6

-- some sections, up to 64
abbrev pub section_numbers : Flow → ListRule
section_numbers flow = coefficients flow (MAX_SECTIONS * section_length flow.format)
    (MultipleOf (section_length flow.format))

-- some reflection coefficients, up to 255
abbrev pub reflections : Flow → ListRule
reflections flow = coefficients flow MAX_LATTICE_SECTIONS (MultipleOf 1)

-- so many numbers
abbrev pub exactly : Flow → ℕ → ListRule
exactly flow count = coefficients flow count (AtLeast count)

-- some of the channels that flow, up to 16
abbrev pub routes : Flow → ListRule
routes flow = record { low = pos 0; high = pos (flow.channels - 1); limit = MAX_CHANNELS; count = MultipleOf 1 }

-- ---- forms

-- the parameters of a block, in their order, each in a range that may depend on those before it, and the block that
-- they make
pub data Form : Type 0 where
  Done : Block → Form
  Integer : (low high : ℤ) → (ℤ → Form) → Form
  Natural : (low high : ℕ) → (ℕ → Form) → Form
  Numbers : ListRule → (List ℤ → Form) → Form
  Conversion : (from : Fmt) → (Fmt → Form) → Form

-- a number of the format's word
abbrev pub coefficient : Flow → (ℤ → Form) → Form
coefficient flow next = Integer (least flow.format) (greatest flow.format) next

-- the side of a matrix
abbrev pub side : (ℕ → Form) → Form
side next = Natural 1 MAX_MATRIX_SIDE next

-- the factor of a decimator or an interpolator
abbrev pub factor : (ℕ → Form) → Form
factor next = Natural 1 MAX_FACTOR next

-- what a block's word is followed by
pub data Argument : Type 0 where
  Number : ℤ → Argument
  Listed : List ℤ → Argument
  Format : Fmt → Argument

-- the arguments fit the form one after another, and make the block
abbrev pub Fits : Form → List Argument → Block → Type 0
Fits (Done made) [] b = made ≡ b
Fits (Integer low high next) (Number n ∷ arguments) b = IsBetween low high n × Fits (next n) arguments b
Fits (Natural low high next) (Number (pos n) ∷ arguments) b = (low ≤ n) × (n ≤ high) × Fits (next n) arguments b
Fits (Numbers rule next) (Listed numbers ∷ arguments) b = IsWithin rule numbers × Fits (next numbers) arguments b
Fits (Conversion from next) (Format format ∷ arguments) b = (format ≢ from) × Fits (next format) arguments b
Fits form arguments b = ⊥
