use Rattle.std.proofs.Common.{◌≡◌, ◌≤◌, ◌∙◌, ◌+◌, ◌*◌, ◌/◌, ℤ, ap, sym, refl, length, take, take_all, arith}
use Rattle.std.proofs.lemmas.List.{map-id}
use Rattle.dsp_defs.specs.Matrix.{multiplied}
use Rattle.dsp_matrix.proofs.PairedProducts.{two-rows, all-pairs, pair-room}
use Rattle.dsp_matrix.proofs.RowWrites.{row-written, piece-length, rises-more}
use Rattle.dsp_matrix.proofs.paired_products.multiply_in_pairs.Goals as goal

pub slice_bounds-multiply_two_rows-end : goal.slice_bounds-multiply_two_rows-end
slice_bounds-multiply_two_rows-end g c = omega (
  arith,
  pair-room c.args.rows c.args.columns c.loop-pair.pair c.requires.paired.rows_even c.loop-pair-test.true,
  c.requires.a,
)

pub slice_bounds-multiply_two_rows-end-in-loop-pair : goal.slice_bounds-multiply_two_rows-end-in-loop-pair
slice_bounds-multiply_two_rows-end-in-loop-pair g c =
    omega (
      arith,
      pair-room c.args.rows c.args.given c.loop-pair.pair c.requires.paired.rows_even c.loop-pair-test.true,
      c.requires.out,
      c.loop-pair.auto.out,
    )

pub loop-pair-preserved : goal.loop-pair-preserved
loop-pair-preserved g c =
    let a = c.args.a.now in
    let matrix = c.args.matrix.now in
    let columns = c.args.columns in
    let given = c.args.given in
    let pair = c.loop-pair.pair in
    let out = c.loop-pair.out in
    let new = c.multiply_two_rows.new.out in
    let h = c.loop-pair.invariant in
    let is = c.multiply_two_rows.ensures in
    let room : pair * (2 * given) + 2 * given ≤ length out =
    omega (
      arith,
      pair-room c.args.rows given pair c.requires.paired.rows_even c.loop-pair-test.true,
      c.requires.out,
      c.loop-pair.auto.out,
    ) in
    let size : length new ≡ 2 * given = c.multiply_two_rows.auto.out ∙
    piece-length out (pair * (2 * given)) (2 * given) room in
    record {
      written =
          ap (take _) (sym (map-id _))
          ∙ row-written (λ (z : ℤ). z) (multiplied columns given matrix a) pair _ (2 * given) (pair * (2 * given)) _
          out new refl refl size (omega (arith, room))
          (ap (take (pair * (2 * given))) (map-id out) ∙ h.written)
          (map-id new ∙ two-rows a matrix columns given pair (pair * (2 * columns)) new refl is.upper is.lower);
      counted = rises-more _ _ _ pair _ (2 * given * columns) refl h.counted is.steps;
    }

pub returns-clause-steps : goal.returns-clause-steps
returns-clause-steps g c =
    let given = c.args.given in
    let columns = c.args.columns in
    let pair = c.loop-pair.pair in
    let last : pair ≡ c.args.rows / 2 = omega arith in
    let all : pair * (2 * given * columns) ≡ c.args.rows * given * columns =
    ap (λ p. p * (2 * given * columns)) last ∙ omega arith ∙
    ap (λ m. m * columns) (all-pairs c.args.rows given c.requires.paired.rows_even) in
    let counted = c.loop-pair.invariant.counted in
    record { multiplies_rise = omega (arith, counted, all); turns_within = omega (arith, counted, all) }

pub returns-clause-out : goal.returns-clause-out
returns-clause-out g c =
    let given = c.args.given in
    let out = c.loop-pair.out in
    let last : c.loop-pair.pair ≡ c.args.rows / 2 = omega arith in
    let all : c.loop-pair.pair * (2 * given) ≡ c.args.rows * given =
    ap (λ p. p * (2 * given)) last ∙ all-pairs c.args.rows given c.requires.paired.rows_even in
    sym (take_all (c.args.rows * given) out (omega (arith, c.loop-pair.auto.out, c.requires.out))) ∙
    rw all at c.loop-pair.invariant.written
