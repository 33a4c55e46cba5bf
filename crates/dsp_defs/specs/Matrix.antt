-- Matrices: a channel is cut into groups, each whole group becomes its result, and a last group that is not whole
-- gives nothing.
use Rattle.std.specs.Prelude.{ℕ, ◌+◌, ◌*◌, ◌/◌, ◌%◌, ℤ, ◌*ℤ◌, List, length, take, drop}
use Rattle.dsp_defs.specs.Formats.{close}
use Rattle.dsp_defs.specs.Signal.{sample, values, sum_below}
use Rattle.dsp_defs.specs.Elementwise.{add, sub, scale}
use Rattle.dsp_defs.specs.declared.format.Fmt.{Fmt}
use Rattle.dsp_defs.specs.declared.format.Fmt.TheVariants.{Q15}

-- what each whole group of `taken` samples gives: `given` samples, by their place; floor(N/taken) * given in all
abbrev pub each_group : ℕ → ℕ → (List ℤ → ℕ → ℤ) → List ℤ → List ℤ
each_group taken given result x =
    values (length x / taken * given) (λ i. result (take taken (drop (i / given * taken) x)) (i % given))

-- an element of a result from the group a, by its place: sat_n(a_i + m_i)
abbrev pub added : Fmt → List ℤ → List ℤ → ℕ → ℤ
added format matrix a i = add format (sample a i) (sample matrix i)

-- sat_n(a_i - m_i)
abbrev pub subtracted : Fmt → List ℤ → List ℤ → ℕ → ℤ
subtracted format matrix a i = sub format (sample a i) (sample matrix i)

-- a_i * fract * 2^s, as `scale` has it
abbrev pub scaled : Fmt → ℤ → ℤ → List ℤ → ℕ → ℤ
scaled format fract s a i = scale format fract s (sample a i)

-- row j, column i of the transposed group is row i, column j of the group
abbrev pub transposed : ℕ → ℕ → List ℤ → ℕ → ℤ
transposed rows columns a i = sample a (i % rows * columns + i / rows)

-- close(sum over k of a[j,k] * m[k,l]): a row of the group times a column of the matrix
abbrev pub multiplied : ℕ → ℕ → List ℤ → List ℤ → ℕ → ℤ
multiplied columns given matrix a i =
    close Q15 (sum_below columns (λ k. sample a (i / given * columns + k) *ℤ sample matrix (k * given + i % given)))

-- ---- of a whole channel

-- a group plus a matrix
abbrev pub mat_add : Fmt → ℕ → ℕ → List ℤ → List ℤ → List ℤ
mat_add format rows columns matrix = each_group (rows * columns) (rows * columns) (added format matrix)

-- a group less a matrix
abbrev pub mat_sub : Fmt → ℕ → ℕ → List ℤ → List ℤ → List ℤ
mat_sub format rows columns matrix = each_group (rows * columns) (rows * columns) (subtracted format matrix)

-- a group times a number
abbrev pub mat_scale : Fmt → ℕ → ℕ → ℤ → ℤ → List ℤ → List ℤ
mat_scale format rows columns fract s = each_group (rows * columns) (rows * columns) (scaled format fract s)

-- a group (rows by columns) transposed (columns by rows)
abbrev pub mat_trans : ℕ → ℕ → List ℤ → List ℤ
mat_trans rows columns = each_group (rows * columns) (rows * columns) (transposed rows columns)

-- the group (rows by columns) times the matrix (columns by given)
abbrev pub mat_mult : ℕ → ℕ → ℕ → List ℤ → List ℤ → List ℤ
mat_mult rows columns given matrix = each_group (rows * columns) (rows * given) (multiplied columns given matrix)
