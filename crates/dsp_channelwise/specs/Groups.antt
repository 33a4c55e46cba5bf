-- Blocks that make a matrix of each whole group of samples.
use Rattle.std.specs.Prelude.{◌≡◌, ℕ, ◌≤◌, ℤ, pos, List}
use Rattle.dsp_defs.specs.Elementwise.{IsMatrixScaleShift}
use Rattle.dsp_defs.specs.Matrix.{added, subtracted, scaled, transposed, multiplied}
use Rattle.dsp_defs.specs.declared.format.Fmt.{Fmt}
use Rattle.dsp_defs.specs.declared.format.Fmt.TheVariants.{Q15}
use Rattle.dsp_defs.specs.declared.script.Block.{Block}
use Rattle.dsp_defs.specs.declared.script.Block.TheVariants.{MatAdd, MatSub, MatScale, MatTrans, MatMult}

-- an element of what a group becomes
abbrev pub element : Fmt → Block → List ℤ → ℕ → ℤ
element format (MatAdd rows columns matrix) = added format matrix
element format (MatSub rows columns matrix) = subtracted format matrix
element format (MatScale rows columns fract shift) = scaled format fract shift
element format (MatTrans rows columns) = transposed rows columns
element format (MatMult rows columns given matrix) = multiplied columns given matrix
element format _ = λ a i. pos 0

-- its products
abbrev pub element_cost : Block → ℕ
element_cost (MatScale rows columns fract shift) = 1
element_cost (MatMult rows columns given matrix) = columns
element_cost _ = 0

-- the block is one of these
abbrev pub IsMatrixBlock : Fmt → Block → Type 0
IsMatrixBlock format (MatAdd rows columns matrix) = (1 ≤ rows) × (1 ≤ columns)
IsMatrixBlock format (MatSub rows columns matrix) = (1 ≤ rows) × (1 ≤ columns)
IsMatrixBlock format (MatScale rows columns fract shift) = (1 ≤ rows) × (1 ≤ columns) × IsMatrixScaleShift format shift
IsMatrixBlock format (MatTrans rows columns) = (1 ≤ rows) × (1 ≤ columns)
IsMatrixBlock format (MatMult rows columns given matrix) = (1 ≤ rows) × (1 ≤ columns) × (1 ≤ given) × (format ≡ Q15)
IsMatrixBlock format _ = ⊥
