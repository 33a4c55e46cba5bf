-- Rows times a matrix that stands row by row.
use Rattle.std.specs.Prelude.{ℕ, ◌+◌, ◌*◌, ℤ, ◌*ℤ◌, List}
use Rattle.dsp_defs.specs.Numbers.{◌>>◌, saturate}
use Rattle.dsp_defs.specs.Signal.{sample, sum_below, values}

-- column l of a matrix of `columns` rows and `given` columns
abbrev pub column_of : List ℤ → ℕ → ℕ → ℕ → List ℤ
column_of matrix columns given l = values columns (λ k. sample matrix (k * given + l))

-- the sum of the products of `columns` elements from `start` on with column l of it
abbrev pub column_sum : List ℤ → List ℤ → ℕ → ℕ → ℕ → ℕ → ℤ
column_sum rows matrix columns given start l = sum_below columns
    (λ k. sample rows (start + k) *ℤ sample matrix (k * given + l))

-- a sum that fits 32 bits, as a sample: sat_16(s >> 15)
abbrev pub shut : ℤ → ℤ
shut s = saturate 16 (s >> 15)
