use Rattle.std.proofs.Common.{◌≡◌, ◌∙◌, ◌+◌, ◌*◌, ◌≤◌, ℕ, length, map, slice_range, ap₂, refl, sym, subst, arith}
use Rattle.std.proofs.Common.{rules, take_all}
use borrow.Author.Rules.{scaled_fits≤}
use Rattle.std.specs.Prelude.{◌*ℤ◌}
use Rattle.std.proofs.lemmas.List.{length-map}
use Rattle.std.proofs.lemmas.Nat.{mul-le}
use Rattle.dsp_defs.specs.Formats.{close}
use Rattle.dsp_defs.specs.Signal.{sample, sum_below, values}
use Rattle.dsp_lanes.specs.Turns.{RisesWithin}
use Rattle.dsp_matrix.specs.Matrices.{product_element}
use Rattle.dsp_matrix.proofs.RowWrites.{row-written, piece-length, product-row, rises-more}
use Rattle.dsp_matrix.proofs.products.multiply.Goals as goal

pub loop-row-preserved : goal.loop-row-preserved
loop-row-preserved g c =
    let T = g.T.Sample in
    let j = c.loop-row.row in
    let rows = c.args.rows in
    let columns = c.args.columns in
    let given = c.args.given in
    let out = c.loop-row.out in
    let matrix = map T.number c.args.matrix.now in
    let rows_out : (j + 1) * given ≤ rows * given = mul-le (j + 1) given rows given (omega arith) (omega arith) in
    let rows_in : (j + 1) * columns ≤ rows * columns = mul-le (j + 1) columns rows columns (omega arith) (omega arith)
    in
    let room : j * given + given ≤ length out = omega (arith, rows_out, c.requires.out, c.loop-row.auto.out) in
    let inside : j * columns + columns ≤ length c.args.a.now = omega (arith, rows_in, c.requires.a) in
    let cut = piece-length out (j * given) given room in
    let row_long = piece-length c.args.a.now (j * columns) columns inside in
    let written : length c.multiply_row.new.out ≡ given = c.multiply_row.auto.out ∙ cut in
    record {
      written =
          row-written T.number (product_element T.format g.O.Order.place columns given (map T.number c.args.a.now)
          matrix) j _ given (j * given) _ out c.multiply_row.new.out refl refl written (omega (arith, room))
          c.loop-row.invariant.written
          (product-row T.number T.format g.O.Order.place columns given j c.args.a.now _ matrix _ refl
          (c.multiply_row.ensures.out
          ∙ ap₂ (λ n m. values n (λ l. close T.format (sum_below m
          (λ k. sample (map T.number (slice_range c.args.a.now (j * columns) (j * columns + columns))) k *ℤ sample
          matrix (g.O.Order.place m n k l))))) cut row_long));
      counted =
          rises-more _ _ _ j _ (given * columns) refl c.loop-row.invariant.counted
          (subst (λ (n : ℕ). RisesWithin c.loop-row.steps c.multiply_row.new.steps n n)
          (ap₂ (λ n m. n * m) cut row_long) c.multiply_row.ensures.steps);
    }

pub offset_bounds-out-at : goal.offset_bounds-out-at
offset_bounds-out-at g c =
    let rows_out : (c.loop-row.row + 1) * c.args.given ≤ c.args.rows * c.args.given =
    mul-le (c.loop-row.row + 1) c.args.given c.args.rows c.args.given (omega arith) (omega arith) in
    let inside : c.loop-row.row * c.args.given ≤ length c.args.out.now = omega (arith, rows_out, c.requires.out) in
    search (rules, scaled_fits≤)

pub returns-clause-out : goal.returns-clause-out
returns-clause-out g c =
    let out = map g.T.Sample.number c.loop-row.out in
    let all : c.loop-row.row ≡ c.args.rows = omega arith in
    let long : length out ≡ c.args.rows * c.args.given = length-map c.loop-row.out g.T.Sample.number ∙
    c.loop-row.auto.out ∙ c.requires.out in
    sym (take_all (c.args.rows * c.args.given) out (omega (arith, long))) ∙ rw all at c.loop-row.invariant.written
