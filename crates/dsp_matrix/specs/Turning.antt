-- A matrix that is transposed row by row.
use Rattle.std.specs.Prelude.{◌≡◌, ℕ, ◌+◌, ◌*◌, ◌<◌, ℤ, List}
use Rattle.dsp_defs.specs.Signal.{sample}

-- row i, column j of a (rows by columns) stands at row j, column i of out
abbrev pub IsTurned : ℕ → ℕ → List ℤ → List ℤ → ℕ → ℕ → Type 0
IsTurned rows columns a out i j = sample out (j * rows + i) ≡ sample a (i * columns + j)

-- all that stood so in one matrix does in another
abbrev pub StaysTurned : ℕ → ℕ → List ℤ → List ℤ → List ℤ → Type 0
StaysTurned rows columns a old new = (i j : ℕ) → i < rows → IsTurned rows columns a old i j →
    IsTurned rows columns a new i j
