-- What has no fault is sound.
use Rattle.std.proofs.Common.{◌≡◌, ◌∙◌, ◌≢◌, refl, sym, ℕ, ◌*◌, ℤ, List, [], ◌∷◌, length, Option, Some}
use Rattle.std.proofs.Common.{None, Result, Ok, Err, MatchOption, arith}
use Rattle.std.specs.Prelude.{All, FitsSigned}
use Rattle.std.specs.Option.{option_or}
use Rattle.std.proofs.lemmas.Int.{ints}
use Rattle.std.proofs.lemmas.List.Elements.{All-cons}
use Rattle.std.proofs.lemmas.Grind.{common_steps}
use Rattle.std.proofs.lemmas.Bool.Decides.{nat_tests}
use Rattle.dsp_defs.specs.Elementwise.{IsMatrixScaleShift}
use Rattle.dsp_defs.specs.Formats.{word}
use Rattle.dsp_defs.specs.declared.fault.MakeFault.{MakeFault}
use Rattle.dsp_defs.specs.declared.format.Fmt.{Fmt}
use Rattle.dsp_defs.specs.declared.format.Fmt.TheVariants.{Q7, Q15, Q31}
use Rattle.dsp_matrix.specs.declared.grouped.GroupOp.{GroupOp}
use Rattle.dsp_matrix.specs.declared.grouped.GroupOp.TheVariants.{Add, Sub, Scale, Trans}
use Rattle.dsp_matrix.specs.Faults.{side_fault, sides_fault, count_fault, number_fault, numbers_fault, shift_fault}
use Rattle.dsp_matrix.specs.Faults.{scale_fault, matrix_fault, op_fault, block_of_op}
use Rattle.dsp_matrix.specs.Matrices.{IsSide, IsMatrix, IsElementwiseIn}

-- a test that passed found no fault
pub no-fault : (o : Option MakeFault) (r : Result (Unit {0}) MakeFault) → MatchOption o (r ≡ Ok tt) (λ e. r ≡ Err e) →
    r ≡ Ok tt → o ≡ None
no-fault None r told ok = refl
no-fault (Some e) r told ok = absurd (differ e (sym told ∙ ok))
  where
    differ : (e : MakeFault) → ◌≡◌ {A = Result (Unit {0}) MakeFault} (Err e) (Ok tt) → ⊥
    differ e same = cc

-- neither of two faults is there
both : (o p : Option MakeFault) → option_or o p ≡ None → (o ≡ None) × (p ≡ None)
both None p none = (refl, none)
both (Some e) p none = absurd (differ e none)
  where
    differ : (e : MakeFault) → ◌≡◌ {A = Option MakeFault} (Some e) None → ⊥
    differ e same = cc

pub sound-side : (n : ℕ) → side_fault n ≡ None → IsSide n
sound-side n none = (grind (arith, common_steps, nat_tests), grind (arith, common_steps, nat_tests))

pub sound-sides : (rows columns : ℕ) → sides_fault rows columns ≡ None → IsSide rows × IsSide columns
sound-sides rows columns none =
    let (first, second) = both (side_fault rows) (side_fault columns) none in
    (sound-side rows first, sound-side columns second)

pub sound-count : (wanted count : ℕ) → count_fault wanted count ≡ None → count ≡ wanted
sound-count wanted count none = grind (arith, common_steps, nat_tests)

sound-number : (format : Fmt) (z : ℤ) → number_fault format z ≡ None → FitsSigned (word format) z
sound-number Q7 z none = record { sfits = grind (arith, common_steps, ints) }
sound-number Q15 z none = record { sfits = grind (arith, common_steps, ints) }
sound-number Q31 z none = record { sfits = grind (arith, common_steps, ints) }

sound-numbers : (format : Fmt) (list : List ℤ) → numbers_fault format list ≡ None → All (FitsSigned (word format)) list
sound-numbers format [] none = λ k d h. absurd (omega (arith, h))
sound-numbers format (z ∷ zs) none =
    let (first, others) = both (number_fault format z) (numbers_fault format zs) none in
    All-cons (FitsSigned (word format)) z zs (sound-number format z first) (sound-numbers format zs others)

sound-shift : (format : Fmt) (places : ℤ) → format ≢ Q7 → shift_fault format places ≡ None →
    IsMatrixScaleShift format places
sound-shift Q7 places wide none = absurd (wide refl)
sound-shift Q15 places wide none = (grind (arith, common_steps, ints), grind (arith, common_steps, ints))
sound-shift Q31 places wide none = (grind (arith, common_steps, ints), grind (arith, common_steps, ints))

sound-matrix : (format : Fmt) (rows columns : ℕ) (list : List ℤ) → matrix_fault format rows columns list ≡ None →
    IsSide rows × IsSide columns × IsMatrix format (rows * columns) list
sound-matrix format rows columns list none =
    let (sides, rest) = both (sides_fault rows columns)
    (option_or (count_fault (rows * columns) (length list)) (numbers_fault format list)) none in
    let (count, numbers) = both (count_fault (rows * columns) (length list)) (numbers_fault format list) rest in
    let (r, c) = sound-sides rows columns sides in
    (r, c, (sound-count (rows * columns) (length list) count, sound-numbers format list numbers))

-- so the block of an operation is
pub sound-op : (format : Fmt) (op : GroupOp) → format ≢ Q7 → op_fault format op ≡ None →
    IsElementwiseIn format (block_of_op op)
sound-op format (Add rows columns list) wide none = sound-matrix format rows columns list none
sound-op format (Sub rows columns list) wide none = sound-matrix format rows columns list none
sound-op format (Scale rows columns fract shift) wide none =
    let (sides, rest) = both (sides_fault rows columns) (scale_fault format fract shift) none in
    let (first, second) = both (number_fault format fract) (shift_fault format shift) rest in
    let (r, c) = sound-sides rows columns sides in
    (r, c, sound-number format fract first, sound-shift format shift wide second)
sound-op format (Trans rows columns) wide none = sound-sides rows columns none
