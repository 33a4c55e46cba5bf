-- The blocks of matrices: what they do with a group, and which of them are sound in a format.
use Rattle.std.specs.Prelude.{◌≡◌, ℕ, ◌+◌, ◌*◌, ◌/◌, ◌%◌, ◌<◌, ◌≤◌, ℤ, ◌*ℤ◌, List, length, map, All, FitsSigned}
use Rattle.dsp_defs.specs.Formats.{word, close}
use Rattle.dsp_defs.specs.Signal.{sample, sum_below}
use Rattle.dsp_defs.specs.Elementwise.{IsMatrixScaleShift}
use Rattle.dsp_defs.specs.Matrix.{added, subtracted, scaled, transposed, multiplied}
use Rattle.dsp_defs.specs.declared.limits.TheConstants.{MAX_MATRIX_SIDE}
use Rattle.dsp_defs.specs.declared.format.Fmt.{Fmt}
use Rattle.dsp_defs.specs.declared.script.Block.{Block}
use Rattle.dsp_defs.specs.declared.script.Block.TheVariants.{MatAdd, MatSub, MatScale, MatTrans, MatMult}
use Rattle.dsp_lanes.specs.Narrow.{IsNarrow}
use Rattle.dsp_lanes.specs.MatrixRows.{column_of}
use Rattle.dsp_matrix.specs.Groups.{Group}
use Rattle.dsp_matrix.specs.declared.matrix_work.MatrixWork.{MatrixWork}
use Rattle.dsp_matrix.specs.declared.matrix_work.MatrixWork.TheVariants.{Add, Sub, Scale, Trans}

-- ---- groups

-- what a block of matrices does with a group
abbrev pub group : Fmt → Block → Group
group format (MatAdd rows columns matrix) = record {
  taken = rows * columns;
  given = rows * columns;
  result =
      added format matrix;
  products = 0;
}
group format (MatSub rows columns matrix) = record {
  taken = rows * columns;
  given = rows * columns;
  result =
      subtracted format matrix;
  products = 0;
}
group format (MatScale rows columns fract shift) = record
    { taken = rows * columns; given = rows * columns; result = scaled format fract shift; products = rows * columns }
group format (MatTrans rows columns) = record {
  taken = rows * columns;
  given = rows * columns;
  result =
      transposed rows columns;
  products = 0;
}
group format (MatMult rows columns given matrix) = record {
  taken = rows * columns;
  given = rows * given;
  result = multiplied columns given matrix;
  products =
      rows * columns * given;
}
group format block = record { taken = 1; given = 1; result = sample; products = 0 }

-- ---- sound blocks

-- a side of a matrix
abbrev pub IsSide : ℕ → Type 0
IsSide n = (1 ≤ n) × (n ≤ MAX_MATRIX_SIDE)

-- a matrix of so many numbers of the format
abbrev pub IsMatrix : Fmt → ℕ → List ℤ → Type 0
IsMatrix format count matrix = (length matrix ≡ count) × All (FitsSigned (word format)) matrix

-- the block works on the elements of a group, and its numbers are those of the format
abbrev pub IsElementwiseIn : Fmt → Block → Type 0
IsElementwiseIn format (MatAdd rows columns matrix) = IsSide rows × IsSide columns ×
    IsMatrix format (rows * columns) matrix
IsElementwiseIn format (MatSub rows columns matrix) = IsSide rows × IsSide columns ×
    IsMatrix format (rows * columns) matrix
IsElementwiseIn format (MatScale rows columns fract shift) = IsSide rows × IsSide columns ×
    FitsSigned (word format) fract × IsMatrixScaleShift format shift
IsElementwiseIn format (MatTrans rows columns) = IsSide rows × IsSide columns
IsElementwiseIn format block = ⊥

-- the block is a product of matrices
abbrev pub IsProductIn : Fmt → Block → Type 0
IsProductIn format (MatMult rows columns given matrix) = IsSide rows × IsSide columns × IsSide given ×
    IsMatrix format (columns * given) matrix
IsProductIn format block = ⊥

-- ---- the block of a work

abbrev pub block_of : {T : Type 0} → (T → ℤ) → MatrixWork T → Block
block_of number (Add rows columns matrix) = MatAdd rows columns (map number matrix.items)
block_of number (Sub rows columns matrix) = MatSub rows columns (map number matrix.items)
block_of number (Scale rows columns fract shift) = MatScale rows columns (number fract) shift
block_of number (Trans rows columns) = MatTrans rows columns

-- the rows and columns of a group
abbrev pub sides_of : Block → ℕ × ℕ
sides_of (MatAdd rows columns matrix) = (rows, columns)
sides_of (MatSub rows columns matrix) = (rows, columns)
sides_of (MatScale rows columns fract shift) = (rows, columns)
sides_of (MatTrans rows columns) = (rows, columns)
sides_of block = (1, 1)

-- what a contract sees of the work of a product
pub record ProductState : Type 0 where
  pub rows : ℕ
  pub columns : ℕ
  pub given : ℕ
  pub matrix : List ℤ

abbrev pub block_of_product : ProductState → Block
block_of_product p = MatMult p.rows p.columns p.given p.matrix

-- so many rows can be multiplied by a matrix two at once: its columns are narrow
pub record IsPaired (rows columns given : ℕ) (matrix : List ℤ) : Type 0 where
  pub rows_even : rows % 2 ≡ 0
  pub columns_even : columns % 2 ≡ 0
  pub fours : given % 4 ≡ 0
  pub narrow : (l : ℕ) → l < given → IsNarrow (column_of matrix columns given l)

-- the sum of the products of a row and column l of a matrix (columns by given), which stands in some order: `place`
-- says where
abbrev pub row_times : (ℕ → ℕ → ℕ → ℕ → ℕ) → ℕ → ℕ → List ℤ → List ℤ → ℕ → ℤ
row_times place columns given row matrix l = sum_below columns
    (λ k. sample row k *ℤ sample matrix (place columns given k l))

-- an element of the product of a and a matrix (columns by given), which stands in some order: `place` says where
abbrev pub product_element : Fmt → (ℕ → ℕ → ℕ → ℕ → ℕ) → ℕ → ℕ → List ℤ → List ℤ → ℕ → ℤ
product_element format place columns given a matrix i =
    close format (sum_below columns (λ k. sample a (i / given * columns + k) *ℤ sample matrix
    (place columns given k (i % given))))
