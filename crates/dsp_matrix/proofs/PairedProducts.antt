-- Products with a matrix, two rows at once.
use Rattle.std.proofs.Common.{◌≡◌, ◌∙◌, ap, ap₂, sym, ℕ, ◌+◌, ◌*◌, ◌<◌, ◌≤◌, ℤ, ◌*ℤ◌, ◌/◌, ◌%◌, List, ◌++◌, length}
use Rattle.std.proofs.Common.{take, drop, slice_range, arith}
use Rattle.std.proofs.lemmas.List.{map-id, take-append-drop}
use Rattle.std.proofs.lemmas.Nat.{div-mul-add, mod-mul-add, mul-add-lt, mul-le}
use Rattle.dsp_defs.specs.Formats.{close}
use Rattle.dsp_defs.specs.Matrix.{transposed, multiplied}
use Rattle.dsp_defs.specs.Signal.{sample, values}
use Rattle.dsp_defs.proofs.Signal.{values_cong, values-add, sum_below_cong}
use Rattle.dsp_defs.proofs.SumLemmas.{same_numbers}
use Rattle.dsp_defs.proofs.BlockLaws.{length-values}
use Rattle.dsp_defs.specs.declared.format.Fmt.TheVariants.{Q15}
use Rattle.dsp_lanes.specs.MatrixRows.{column_of, column_sum}
use Rattle.dsp_filter.proofs.Slices.{sample-piece}
use Rattle.dsp_unit.proofs.ChannelFrames.{sample-values}
use Rattle.dsp_matrix.proofs.RowWrites.{piece-length}

-- a number of a piece
piece-read : (xs : List ℤ) (start n k : ℕ) → k < n → sample (slice_range xs start (start + n)) k ≡ sample xs (start + k)
piece-read xs start n k below =
    ap (λ l. sample l k) (sym (map-id (slice_range xs start (start + n)))) ∙
    sample-piece (λ (z : ℤ). z) xs start n k below ∙ ap (λ l. sample l (start + k)) (map-id xs)

-- ---- two rows

-- element l of one of two rows, the r-th
element-is :
    (a matrix : List ℤ) (columns given row start skip r l : ℕ) → l < given → start ≡ row * columns →
    skip ≡ r * columns → skip + columns ≤ 2 * columns →
    close Q15 (column_sum (slice_range a start (start + 2 * columns)) matrix columns given skip l) ≡ multiplied
    columns given matrix a ((row + r) * given + l)
element-is a matrix columns given row start skip r l inside is_start is_skip room =
    let i = (row + r) * given + l in
    let quotient : i / given ≡ row + r = div-mul-add (row + r) given l inside in
    let rest : i % given ≡ l = mod-mul-add (row + r) given l inside in
    ap (close Q15)
    (sum_below_cong columns _ _
    (λ k below.
    let place : start + (skip + k) ≡ (row + r) * columns + k = omega (arith, is_start, is_skip) in
    ap₂ (λ u v. u *ℤ v)
    (piece-read a start (2 * columns) (skip + k) (omega (arith, below, room)) ∙
    ap (sample a) (place ∙ ap (λ q. q * columns + k) (sym quotient)))
    (ap (λ m. sample matrix (k * given + m)) (sym rest))))

-- both of them
pub two-rows :
    (a matrix : List ℤ) (columns given pair start : ℕ) (new : List ℤ) → start ≡ pair * (2 * columns) →
    take given new ≡ values given (λ l. close Q15 (column_sum (slice_range a start (start + 2 * columns)) matrix
    columns given 0 l)) →
    drop given new ≡ values given (λ l. close Q15 (column_sum (slice_range a start (start + 2 * columns)) matrix
    columns given columns l)) →
    new ≡ values (2 * given) (λ l. multiplied columns given matrix a (pair * (2 * given) + l))
two-rows a matrix columns given pair start new is_start upper lower =
    let f = multiplied columns given matrix a in
    let row = 2 * pair in
    let first : start ≡ row * columns = omega (arith, is_start) in
    let both : given + given ≡ 2 * given = omega arith in
    sym (take-append-drop given new)
    ∙ ap₂ (λ xs ys. xs ++ ys)
    (upper
    ∙ values_cong given _ _
    (λ l h.
    let place : (row + 0) * given + l ≡ pair * (2 * given) + l = omega arith in
    element-is a matrix columns given row start 0 0 l h first (omega arith) (omega arith) ∙ ap f place))
    (lower
    ∙ values_cong given _ _
    (λ l h.
    let place : (row + 1) * given + l ≡ pair * (2 * given) + (given + l) = omega arith in
    element-is a matrix columns given row start columns 1 l h first (omega arith) (omega arith) ∙ ap f place))
    ∙ sym (values-add given given (λ l. f (pair * (2 * given) + l)))
    ∙ ap (λ n. values n (λ l. f (pair * (2 * given) + l))) both

-- ---- columns

-- a column of the matrix, where it stands column by column
pub column-turned : (matrix turned : List ℤ) (columns given l : ℕ) → l < given →
    turned ≡ values (columns * given) (transposed columns given matrix) →
    slice_range turned (l * columns) (l * columns + columns) ≡ column_of matrix columns given l
column-turned matrix turned columns given l inside is =
    let f = transposed columns given matrix in
    let long : length turned ≡ columns * given = ap length is ∙ length-values (columns * given) f in
    let behind : (l + 1) * columns ≤ given * columns = mul-le (l + 1) columns given columns (omega (arith, inside))
    (omega arith) in
    let size : length (slice_range turned (l * columns) (l * columns + columns)) ≡ columns =
    piece-length turned (l * columns) columns (omega (arith, behind, long)) in
    let wanted = length-values columns (λ k. sample matrix (k * given + l)) in
    same_numbers (slice_range turned (l * columns) (l * columns + columns)) (column_of matrix columns given l)
    (size ∙ sym wanted)
    (λ k below.
    let within : k < columns = omega (arith, below, size) in
    let room : l * columns + k < columns * given = mul-add-lt l columns k given inside within in
    let place : (l * columns + k) % columns * given + (l * columns + k) / columns ≡ k * given + l =
    ap₂ (λ u v. u * given + v) (mod-mul-add l columns k within) (div-mul-add l columns k within) in
    piece-read turned (l * columns) columns k within
    ∙ ap (λ t. sample t (l * columns + k)) is
    ∙ sample-values (columns * given) f (l * columns + k) room
    ∙ ap (sample matrix) place
    ∙ sym (sample-values columns (λ k. sample matrix (k * given + l)) k within))

-- ---- pairs of rows

-- all of them are all rows
pub all-pairs : (rows n : ℕ) → rows % 2 ≡ 0 → rows / 2 * (2 * n) ≡ rows * n
all-pairs rows n even =
    let whole : rows / 2 * 2 ≡ rows = omega (arith, even) in
    let same : rows / 2 * (2 * n) ≡ rows / 2 * 2 * n = omega arith in
    same ∙ ap (λ r. r * n) whole

-- a pair stands within them
pub pair-room : (rows n pair : ℕ) → rows % 2 ≡ 0 → pair < rows / 2 → pair * (2 * n) + 2 * n ≤ rows * n
pair-room rows n pair even below =
    let more : (pair + 1) * (2 * n) ≤ rows / 2 * (2 * n) =
    mul-le (pair + 1) (2 * n) (rows / 2) (2 * n) (omega (arith, below)) (omega arith) in
    omega (arith, more, all-pairs rows n even)
