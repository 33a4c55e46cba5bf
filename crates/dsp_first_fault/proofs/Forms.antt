-- The parameters of each block can be ended, but for the taps of an `interpolate` that are too many.
use Rattle.std.proofs.Common.{◌≡◌, ℕ, ℤ, pos, negsuc, ◌+◌, ◌*◌, ◌≤◌, ◌≤ℤ◌, true, false, List, [], ◌∷◌, ◌++◌, length}
use Rattle.std.proofs.Common.{map, Some, refl, ap, ◌∙◌, inl, inr, arith}
use Rattle.std.specs.Prelude.{◌⊎◌, nat_le}
use Rattle.std.proofs.lemmas.Bool.Decides.{nat_tests}
use Rattle.std.proofs.lemmas.Int.{ints}
use Rattle.std.proofs.Math.Nat.{mod_self, mul-le-mul}
use Rattle.dsp_defs.specs.declared.script.Block.{Block}
use Rattle.dsp_defs.specs.declared.limits.TheConstants.{MAX_TAPS, MAX_FACTOR, MAX_SECTIONS}
use Rattle.dsp_defs.specs.declared.list_rule.Count.TheVariants.{MultipleOf}
use Rattle.dsp_defs.specs.declared.list_rule.ListRule.{ListRule}
use Rattle.dsp_defs.specs.declared.format.Fmt.{Fmt}
use Rattle.dsp_defs.specs.declared.format.Fmt.TheVariants.{Q7, Q15, Q31}
use Rattle.dsp_defs.specs.declared.script.Block.TheVariants as block
use Rattle.dsp_defs.specs.declared.flow.Flow.{Flow}
use Rattle.dsp_defs.specs.declared.word.Word.{Word}
use Rattle.dsp_defs.specs.declared.word.Word.TheVariants as words
use Rattle.dsp_defs.specs.Token.{Token, Open, Run, Item}
use Rattle.dsp_defs.specs.Numbers.{neg}
use Rattle.dsp_defs.specs.Numeral.{value_of}
use Rattle.dsp_defs.specs.Elementwise.{greatest_scale, greatest_shift, least_matrix_shift, greatest_matrix_shift}
use Rattle.dsp_defs.specs.Parameters.{Form, Done, Integer, Natural, Numbers, Conversion, IsBetween, IsWithin}
use Rattle.dsp_defs.specs.Parameters.{is_complete, least, greatest, taps, sparse_taps, delays, section_numbers}
use Rattle.dsp_defs.specs.Parameters.{reflections, exactly, routes, section_length}
use Rattle.dsp_defs.specs.Places.{next_at, number, natural_at, Environment, list_at, conversion}
use Rattle.dsp_defs.specs.Reading.{block_at}
use Rattle.dsp_script.specs.Answers.{parameters}
use Rattle.dsp_script.proofs.Steps.{number_takes}
use Rattle.dsp_script.proofs.ListLaws.{list_takes}
use Rattle.dsp_script.proofs.PlainLaws.{as_items}
use Rattle.dsp_first_fault.proofs.Readers.{TakesAs, Goes, even}
use Rattle.dsp_first_fault.proofs.Sequences.{then, then_full, then_done, done_outcome}
use Rattle.dsp_first_fault.proofs.Items.{rest_at, tokens_as}
use Rattle.dsp_first_fault.proofs.Accepted.{IsNumeral, numeral_0, numeral_1, numeral_7, numeral_15, numeral_30}
use Rattle.dsp_first_fault.proofs.Accepted.{numeral_31, numeral_127, numeral_32767, numeral_2147483647}
use Rattle.dsp_first_fault.proofs.Lists.{ListFull, IsEasy, IsPossible, easy_list, list_outcome, list_room}
use Rattle.dsp_first_fault.proofs.Numbers.{number_outcome, natural_outcome, conversion_outcome, took_natural}

-- ---- forms

-- whatever is taken of a form, the rest of it can be had in so many bytes
abbrev pub IsFillable : ℕ → Form → Type 0
IsFillable room (Done made) = Unit {0}
IsFillable room (Integer low high next) = (more : ℕ) × (12 + more ≤ room) × IsNumeral high × (low ≤ℤ high) ×
    ((n : ℤ) → IsBetween low high n → IsFillable more (next n))
IsFillable room (Natural low high next) = (more : ℕ) × (12 + more ≤ room) × IsNumeral (pos low) × (low ≤ high) ×
    ((n : ℕ) → low ≤ n → n ≤ high → IsFillable more (next n))
IsFillable room (Numbers rule next) = (more : ℕ) × (list_room rule + more ≤ room) × IsEasy rule ×
    ((numbers : List ℤ) → IsWithin rule numbers → IsFillable more (next numbers))
IsFillable room (Conversion from next) = (more : ℕ) × (4 + more ≤ room) × ((f : Fmt) → IsFillable more (next f))

-- no tokens are full
abbrev pub Never : List Token → Type 0
Never ts = ⊥

never_behind : (ts ts2 : List Token) → Never ts2 → Never (ts ++ ts2)
never_behind ts ts2 h = h

number_between : (low high n : ℤ) (ts : List Token) (left : List Item) → TakesAs (next_at (number low high)) ts n left →
    IsBetween low high n
number_between low high n ts left takes = (number_takes [] low high (rest_at (as_items ts ++ left) 0) (rest_at left 0) n
    (takes (as_items ts) left 0 (tokens_as ts) (inl refl))).1

list_within : (tables : Environment) (rule : ListRule) (numbers : List ℤ) (ts : List Token) (left : List Item) →
    TakesAs (list_at tables rule) ts numbers left → IsWithin rule numbers
list_within tables rule numbers ts left takes = (list_takes tables rule (rest_at (as_items ts ++ left) 0)
    (rest_at left 0) numbers (takes (as_items ts) left 0 (tokens_as ts) (inl refl))).1

pub form_outcome : (tables : Environment) (form : Form) (room : ℕ) (items : List Item) (end : ℕ) →
    IsFillable room form → Goes Never (block_at tables form) (even room) (rest_at items end)
unfolding block_at
form_outcome tables (Done made) room items end f = done_outcome _ made items end
form_outcome tables (Integer low high next) room items end f =
    then Never never_behind (next_at (number low high)) (λ n. block_at tables (next n)) (even 12) (even f.0) (even room)
    items end (record { empty = f.1; most = f.1; later = omega (arith, f.1) })
    (number_outcome Never low high high items end f.2 (f.3, omega (arith, ints)))
    (λ n ts left e takes. form_outcome tables (next n) f.0 left e (f.4 n (number_between low high n ts left takes)))
form_outcome tables (Natural low high next) room items end f =
    then Never never_behind (natural_at low high) (λ n. block_at tables (next n)) (even 12) (even f.0) (even room)
    items end (record { empty = f.1; most = f.1; later = omega (arith, f.1) })
    (natural_outcome Never low high items end f.2 f.3)
    (λ n ts left e takes. let t = took_natural low high n ts left takes in
    form_outcome tables (next n) f.0 left e (f.4 n t.3 t.4))
form_outcome tables (Numbers rule next) room items end f =
    then Never never_behind (list_at tables rule) (λ n. block_at tables (next n)) (even (list_room rule)) (even f.0)
    (even room) items end (record { empty = f.1; most = f.1; later = omega (arith, f.1) })
    (easy_list Never tables rule items end f.2)
    (λ n ts left e takes. form_outcome tables (next n) f.0 left e (f.3 n (list_within tables rule n ts left takes)))
form_outcome tables (Conversion from next) room items end f =
    then Never never_behind (next_at (conversion from)) (λ g. block_at tables (next g)) (even 4) (even f.0) (even room)
    items end (record { empty = f.1; most = f.1; later = omega (arith, f.1) })
    (conversion_outcome Never from items end)
    (λ g ts left e takes. form_outcome tables (next g) f.0 left e (f.2 g))

-- ---- the ranges and lists of the blocks

greatest_is : (f : Fmt) → IsNumeral (greatest f)
greatest_is Q7 = numeral_127
greatest_is Q15 = numeral_32767
greatest_is Q31 = numeral_2147483647

word_range : (f : Fmt) → IsBetween (least f) (greatest f) (pos 0)
word_range Q7 = (omega (arith, ints), omega (arith, ints))
word_range Q15 = (omega (arith, ints), omega (arith, ints))
word_range Q31 = (omega (arith, ints), omega (arith, ints))

in_order : (f : Fmt) → least f ≤ℤ greatest f
in_order f = let w = word_range f in omega (arith, ints, w.0, w.1)

scale_is : (f : Fmt) → IsNumeral (pos (greatest_scale f)) × (negsuc (greatest_scale f) ≤ℤ pos (greatest_scale f))
scale_is Q7 = (numeral_7, omega (arith, ints))
scale_is Q15 = (numeral_15, omega (arith, ints))
scale_is Q31 = (numeral_30, omega (arith, ints))

shift_is : (f : Fmt) → IsNumeral (pos (greatest_shift f)) × (neg (greatest_shift f) ≤ℤ pos (greatest_shift f))
shift_is Q7 = (numeral_7, omega (arith, ints))
shift_is Q15 = (numeral_15, omega (arith, ints))
shift_is Q31 = (numeral_31, omega (arith, ints))

matrix_shift_is : (f : Fmt) → IsNumeral (greatest_matrix_shift f) × (least_matrix_shift f ≤ℤ greatest_matrix_shift f)
matrix_shift_is Q7 = (numeral_15, omega (arith, ints))
matrix_shift_is Q15 = (numeral_15, omega (arith, ints))
matrix_shift_is Q31 = (numeral_30, omega (arith, ints))

easy_taps : (flow : Flow) → IsEasy (taps flow 1)
easy_taps flow = record { zero = word_range flow.format; complete = refl }

easy_sparse : (flow : Flow) → IsEasy (sparse_taps flow)
easy_sparse flow = record { zero = word_range flow.format; complete = refl }

easy_delays : (count : ℕ) → IsEasy (delays count)
easy_delays count = record {
  zero = (omega (arith, ints), omega (arith, ints));
  complete = grind (arith, nat_tests);
}

easy_exactly : (flow : Flow) (count : ℕ) → IsEasy (exactly flow count)
easy_exactly flow count = record { zero = word_range flow.format; complete = grind (arith, nat_tests) }

easy_reflections : (flow : Flow) → IsEasy (reflections flow)
easy_reflections flow = record { zero = word_range flow.format; complete = refl }

easy_routes : (flow : Flow) → IsEasy (routes flow)
easy_routes flow = record { zero = (omega (arith, ints), omega (arith, ints)); complete = refl }

sections_end : (f : Fmt) → is_complete (MultipleOf (section_length f)) (MAX_SECTIONS * section_length f) ≡ true
sections_end Q7 = refl
sections_end Q15 = refl
sections_end Q31 = refl

sections_few : (f : Fmt) → MAX_SECTIONS * section_length f ≤ 384
sections_few Q7 = omega arith
sections_few Q15 = omega arith
sections_few Q31 = omega arith

easy_sections : (flow : Flow) → IsEasy (section_numbers flow)
easy_sections flow = record { zero = word_range flow.format; complete = sections_end flow.format }

-- ---- the blocks

-- the room that a block's parameters may want: two lists of taps
abbrev pub block_most : ℕ
block_most = 4 * MAX_TAPS + 8

area : (a b : ℕ) → a ≤ 64 → b ≤ 64 → a * b ≤ 4096
area a b few some = let product : a * b ≤ 64 * 64 = mul-le-mul few some in omega arith

fillable_taps : (flow : Flow) (room : ℕ) (f : List ℤ → Block) → 2 * MAX_TAPS + 4 ≤ room →
    IsFillable room (Numbers (taps flow 1) (λ taps. Done (f taps)))
fillable_taps flow room f fits = (0, omega arith, easy_taps flow, λ taps within. tt)

fillable_matrix : (flow : Flow) (room rows columns : ℕ) (f : List ℤ → Block) → rows ≤ 64 → columns ≤ 64 →
    8196 ≤ room → IsFillable room (Numbers (exactly flow (rows * columns)) (λ matrix. Done (f matrix)))
fillable_matrix flow room rows columns f few some fits =
    (0, omega (arith, area rows columns few some), easy_exactly flow (rows * columns), λ matrix within. tt)

pub fillable : (w : Word) (flow : Flow) → (w ≡ words.Interpolate) ⊎ IsFillable block_most (parameters w flow)
fillable words.Offset flow =
    inr (0, omega arith, greatest_is flow.format, in_order flow.format, λ value between. tt)
fillable words.Negate flow = inr tt
fillable words.Abs flow = inr tt
fillable words.Scale flow =
    inr (
      12,
      omega arith,
      greatest_is flow.format,
      in_order flow.format,
      λ fract between.
          let s = scale_is flow.format in (0, omega arith, s.0, s.1, λ shift between. tt),
    )
fillable words.Shift flow = let s = shift_is flow.format in inr (0, omega arith, s.0, s.1, λ shift between. tt)
fillable words.Clip flow =
    inr (
      12,
      omega arith,
      greatest_is flow.format,
      in_order flow.format,
      λ low between.
          (0, omega arith, greatest_is flow.format, between.1, λ high between. tt),
    )
fillable words.To flow = inr (0, omega arith, λ format. tt)
fillable words.Add flow = inr tt
fillable words.Sub flow = inr tt
fillable words.Mult flow = inr tt
fillable words.Conj flow = inr tt
fillable words.CmplxMult flow = inr tt
fillable words.CmplxMultReal flow = inr tt
fillable words.MagSquared flow = inr tt
fillable words.Fir flow = inr (fillable_taps flow block_most (λ taps. block.Fir taps) (omega arith))
fillable words.Sparse flow = inr (
  2 * MAX_TAPS + 4,
  omega arith,
  easy_sparse flow,
  λ taps within.
      (0, omega (arith, within.limit), easy_delays (length taps), λ delays within. tt),
)
fillable words.Decimate flow = inr (
  2 * MAX_TAPS + 4,
  omega arith,
  numeral_1,
  omega arith,
  λ m low high.
      fillable_taps flow (2 * MAX_TAPS + 4) (λ taps. block.Decimate m taps) (omega arith),
)
fillable words.Interpolate flow = inl refl
fillable words.LatticeFir flow = inr (0, omega arith, easy_reflections flow, λ k within. tt)
fillable words.LatticeIir flow = inr (
  1024,
  omega arith,
  easy_reflections flow,
  λ k within.
      (0, omega (arith, within.limit), easy_exactly flow (length k + 1), λ v within. tt),
)
fillable words.Biquad flow = inr (
  1024,
  omega arith,
  numeral_0,
  omega arith,
  λ post_shift low high.
      (0, omega (arith, sections_few flow.format), easy_sections flow, λ coefficients within. tt),
)
fillable words.Biquad64 flow = inr (
  1024,
  omega arith,
  numeral_0,
  omega arith,
  λ post_shift low high.
      (0, omega (arith, sections_few flow.format), easy_sections flow, λ coefficients within. tt),
)
fillable words.Conv flow = inr (fillable_taps flow block_most (λ taps. block.Conv taps) (omega arith))
fillable words.ConvPartial flow = inr (
  2 * MAX_TAPS + 16,
  omega arith,
  numeral_0,
  omega arith,
  λ first low high. (
    2 * MAX_TAPS + 4,
    omega arith,
    numeral_1,
    omega arith,
    λ count low high.
        fillable_taps flow (2 * MAX_TAPS + 4) (λ taps. block.ConvPartial first count taps) (omega arith),
  ),
)
fillable words.Correlate flow = inr (fillable_taps flow block_most (λ taps. block.Correlate taps) (omega arith))
fillable words.Lms flow = inr (
  2 * MAX_TAPS + 16,
  omega arith,
  numeral_0,
  omega arith,
  λ post_shift low high. (
    2 * MAX_TAPS + 4,
    omega arith,
    greatest_is flow.format,
    in_order flow.format,
    λ mu between.
        fillable_taps flow (2 * MAX_TAPS + 4) (λ taps. block.Lms post_shift mu taps) (omega arith),
  ),
)
fillable words.Pid flow =
    inr (
      24,
      omega arith,
      greatest_is flow.format,
      in_order flow.format,
      λ kp between. (
        12,
        omega arith,
        greatest_is flow.format,
        in_order flow.format,
        λ ki between.
            (0, omega arith, greatest_is flow.format, in_order flow.format, λ kd between. tt),
      ),
    )
fillable words.MatAdd flow = inr (
  10000,
  omega arith,
  numeral_1,
  omega arith,
  λ rows low few. (
    9000,
    omega arith,
    numeral_1,
    omega arith,
    λ columns low some.
        fillable_matrix flow 9000 rows columns (λ matrix. block.MatAdd rows columns matrix) few some (omega arith),
  ),
)
fillable words.MatSub flow = inr (
  10000,
  omega arith,
  numeral_1,
  omega arith,
  λ rows low few. (
    9000,
    omega arith,
    numeral_1,
    omega arith,
    λ columns low some.
        fillable_matrix flow 9000 rows columns (λ matrix. block.MatSub rows columns matrix) few some (omega arith),
  ),
)
fillable words.MatScale flow = inr (
  36,
  omega arith,
  numeral_1,
  omega arith,
  λ rows low few. (
    24,
    omega arith,
    numeral_1,
    omega arith,
    λ columns low some. (
      12,
      omega arith,
      greatest_is flow.format,
      in_order flow.format,
      λ fract between.
          let s = matrix_shift_is flow.format in (0, omega arith, s.0, s.1, λ shift between. tt),
    ),
  ),
)
fillable words.MatTrans flow = inr (
  12,
  omega arith,
  numeral_1,
  omega arith,
  λ rows low few.
      (0, omega arith, numeral_1, omega arith, λ columns low some. tt),
)
fillable words.MatMult flow = inr (
  10000,
  omega arith,
  numeral_1,
  omega arith,
  λ rows low few. (
    9900,
    omega arith,
    numeral_1,
    omega arith,
    λ columns low some. (
      9000,
      omega arith,
      numeral_1,
      omega arith,
      λ given low most.
          fillable_matrix flow 9000 columns given (λ matrix. block.MatMult rows columns given matrix) some most
          (omega arith),
    ),
  ),
)
fillable words.Power flow = inr tt
fillable words.Dot flow = inr tt
fillable words.CmplxDot flow = inr tt
fillable words.Max flow = inr tt
fillable words.Min flow = inr tt
fillable words.Route flow = inr (0, omega arith, easy_routes flow, λ channels within. tt)

-- ---- interpolate

-- a factor and taps, and no number of taps that it divides is left
abbrev pub FactorFull : List Token → Type 0
FactorFull ts = (numeral : List ℕ) × (runs : List (List ℕ)) × (factor : ℕ) ×
    (ts ≡ Run numeral ∷ Open ∷ map Run runs) × (value_of numeral ≡ Some (pos factor)) ×
    ((1 ≤ factor) × (factor ≤ MAX_FACTOR)) × (length runs ≤ MAX_TAPS) ×
    ((n : ℕ) → length runs ≤ n → n ≤ MAX_TAPS → is_complete (MultipleOf factor) n ≡ false)

-- as many numbers as the factor are a multiple of it
pub complete_at : (factor : ℕ) → 1 ≤ factor → is_complete (MultipleOf factor) factor ≡ true
complete_at factor low =
    let some : nat_le 1 factor ≡ true = grind (arith, nat_tests) in rw (some, mod_self factor) refl

possible_taps : (flow : Flow) (factor : ℕ) → 1 ≤ factor → factor ≤ MAX_FACTOR → IsPossible (taps flow factor)
possible_taps flow factor low high = record {
  zero = word_range flow.format;
  count = factor;
  fits = omega arith;
  complete = complete_at factor low;
}

factor_passes : (flow : Flow) (factor : ℕ) (ts ts2 : List Token) (left : List Item) →
    TakesAs (natural_at 1 MAX_FACTOR) ts factor left → ListFull (taps flow factor) ts2 → FactorFull (ts ++ ts2)
factor_passes flow factor ts ts2 left takes (runs, same, few, stuck) =
    let t = took_natural 1 MAX_FACTOR factor ts left takes in (
      t.0,
      runs,
      factor,
      ap (λ (more : List Token). more ++ ts2) t.1 ∙ ap (λ (more : List Token). Run t.0 ∷ more) same,
      t.2,
      (t.3, t.4),
      few,
      stuck,
    )

pub interpolate_outcome : (tables : Environment) (flow : Flow) (items : List Item) (end : ℕ) →
    Goes FactorFull (block_at tables (parameters words.Interpolate flow)) (even block_most) (rest_at items end)
unfolding block_at
interpolate_outcome tables flow items end =
    then_full (natural_at 1 MAX_FACTOR)
    (λ l. block_at tables (Numbers (taps flow l) (λ taps. Done (block.Interpolate l taps)))) (λ _. ⊥)
    (λ l. ListFull (taps flow l)) FactorFull (even 12) (even (2 * MAX_TAPS + 4)) (even block_most) items end
    (record { empty = omega arith; most = omega arith; later = omega arith })
    (λ ts h. absurd h) (factor_passes flow)
    (natural_outcome (λ _. ⊥) 1 MAX_FACTOR items end numeral_1 (omega arith))
    (λ l ts left e takes. let t = took_natural 1 MAX_FACTOR l ts left takes in
    then_done (ListFull (taps flow l)) (list_at tables (taps flow l)) (λ taps. block.Interpolate l taps)
    (even (2 * MAX_TAPS + 4)) left e (list_outcome tables (taps flow l) left e (possible_taps flow l t.3 t.4)))
