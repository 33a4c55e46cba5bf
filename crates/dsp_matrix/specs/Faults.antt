-- The faults of what a matrix block is made of.
use Rattle.std.specs.Prelude.{◌≢◌, ℕ, ◌*◌, ℤ, pos, Bool, ◌&&◌, int_le, nat_eq, nat_le, List, [], ◌∷◌, length, Option}
use Rattle.std.specs.Prelude.{Some, None, if◌then◌else◌}
use Rattle.std.specs.Option.{option_or}
use Rattle.dsp_defs.specs.Elementwise.{least_matrix_shift, greatest_matrix_shift}
use Rattle.dsp_defs.specs.Parameters.{least, greatest}
use Rattle.dsp_filter.specs.Making.{block_fault}
use Rattle.dsp_defs.specs.declared.limits.TheConstants.{MAX_MATRIX_SIDE}
use Rattle.dsp_defs.specs.declared.format.Fmt.{Fmt}
use Rattle.dsp_defs.specs.declared.format.Fmt.TheVariants.{Q7, Q15, Q31}
use Rattle.dsp_defs.specs.declared.fault.MakeFault.{MakeFault}
use Rattle.dsp_defs.specs.declared.fault.MakeFault.TheVariants.{Length, Range}
use Rattle.dsp_defs.specs.declared.script.Block.{Block}
use Rattle.dsp_defs.specs.declared.script.Block.TheVariants.{MatAdd, MatSub, MatScale, MatTrans}
use Rattle.dsp_matrix.specs.declared.grouped.GroupOp.{GroupOp}
use Rattle.dsp_matrix.specs.declared.grouped.GroupOp.TheVariants.{Add, Sub, Scale, Trans}

-- ---- one parameter

-- the fault of such a side
abbrev pub side_fault : ℕ → Option MakeFault
side_fault side = if nat_le 1 side && nat_le side MAX_MATRIX_SIDE then None else Some (Range (pos side))

-- the first fault of such sides
abbrev pub sides_fault : ℕ → ℕ → Option MakeFault
sides_fault rows columns = option_or (side_fault rows) (side_fault columns)

-- the fault of so many numbers, where so many are wanted
abbrev pub count_fault : ℕ → ℕ → Option MakeFault
count_fault wanted count = if nat_eq count wanted then None else Some (Length count wanted)

abbrev pub is_between : ℤ → ℤ → ℤ → Bool
is_between low high z = int_le low z && int_le z high

-- the fault of a number that is outside of the format's word
abbrev pub number_fault : Fmt → ℤ → Option MakeFault
number_fault format z = if is_between (least format) (greatest format) z then None else Some (Range z)

-- that of the first such number
abbrev pub numbers_fault : Fmt → List ℤ → Option MakeFault
numbers_fault format [] = None
numbers_fault format (z ∷ zs) = option_or (number_fault format z) (numbers_fault format zs)

-- a shift of `mat_scale`
abbrev pub is_matrix_shift : Fmt → ℤ → Bool
is_matrix_shift format places = is_between (least_matrix_shift format) (greatest_matrix_shift format) places

abbrev pub shift_fault : Fmt → ℤ → Option MakeFault
shift_fault format places = if is_matrix_shift format places then None else Some (Range places)

-- the first fault of a fraction and a shift
abbrev pub scale_fault : Fmt → ℤ → ℤ → Option MakeFault
scale_fault format fract places = option_or (number_fault format fract) (shift_fault format places)

-- ---- all parameters

-- the first fault of a matrix of such sides
abbrev pub matrix_fault : Fmt → ℕ → ℕ → List ℤ → Option MakeFault
matrix_fault format rows columns list = option_or (sides_fault rows columns)
    (option_or (count_fault (rows * columns) (length list)) (numbers_fault format list))

-- the first fault of an operation
abbrev pub op_fault : Fmt → GroupOp → Option MakeFault
op_fault format (Add rows columns list) = matrix_fault format rows columns list
op_fault format (Sub rows columns list) = matrix_fault format rows columns list
op_fault format (Scale rows columns fract shift) = option_or (sides_fault rows columns) (scale_fault format fract shift)
op_fault format (Trans rows columns) = sides_fault rows columns

-- and of the greatest block length
abbrev pub grouped_fault : Fmt → GroupOp → ℕ → Option MakeFault
grouped_fault format op block = option_or (op_fault format op) (block_fault block)

-- the first fault of a product of matrices
abbrev pub product_fault : ℕ → ℕ → ℕ → ℕ → ℕ → Option MakeFault
product_fault rows columns given count block =
    option_or (sides_fault rows columns) (option_or (side_fault given)
    (option_or (count_fault (columns * given) count) (block_fault block)))

-- ---- the block of an operation

abbrev pub block_of_op : GroupOp → Block
block_of_op (Add rows columns list) = MatAdd rows columns list
block_of_op (Sub rows columns list) = MatSub rows columns list
block_of_op (Scale rows columns fract shift) = MatScale rows columns fract shift
block_of_op (Trans rows columns) = MatTrans rows columns

-- ---- formats with matrices

pub q15-wide : Q15 ≢ Q7
q15-wide e = cc

pub q31-wide : Q31 ≢ Q7
q31-wide e = cc
