use Rattle.std.proofs.Common.{ℕ, ℤ, List, ◌≡◌, ◌∙◌, ◌+◌, ◌*◌, ◌%◌, ◌++◌, ap, sym, subst, length, take, drop}
use Rattle.std.proofs.Common.{slice_range, take_at, arith}
use Rattle.std.proofs.lemmas.List.{map-id}
use Rattle.dsp_defs.specs.Matrix.{transposed}
use Rattle.dsp_defs.specs.Signal.{values}
use Rattle.dsp_lanes.specs.Narrow.{IsNarrow}
use Rattle.dsp_matrix.proofs.PairedProducts.{column-turned}
use Rattle.dsp_matrix.proofs.product_work.ProductWork.new.Goals as goal

pub invariant_of-result : goal.invariant_of-result
invariant_of-result c =
    let columns = c.args.columns in
    let given = c.args.given in
    let matrix = c.args.matrix.items in
    let lent = c.deref-2.result.now in
    let can = c.are_paired-paired.ensures in
    let out : c.mat_trans.new.out ≡ values (columns * given) (transposed columns given matrix) =
    sym (map-id c.mat_trans.new.out)
    ∙ c.mat_trans.ensures
    ∙ (λ i. values (c.from.ensures i * c.from-2.ensures i)
    (transposed (c.from.ensures i) (c.from-2.ensures i) ((map-id c.deref.result.now ∙ c.deref.ensures.value) i))) in
    let turned : take c.in_ok-turned.turned.len (c.mat_trans.new.out ++ drop (length c.mat_trans.new.out)
    c.in_ok-turned.turned.items) ≡ values (columns * given) (transposed columns given matrix) =
    take_at c.mat_trans.new.out (drop (length c.mat_trans.new.out) c.in_ok-turned.turned.items)
    c.in_ok-turned.turned.len (omega (arith, c.mat_trans.auto.out, c.deref_mut.ensures.len)) ∙ out in
    let is : lent ≡ values (columns * given) (transposed columns given matrix) = c.deref-2.ensures.value ∙ turned in (
      turned,
      λ paired. record {
        rows_even = ap (λ (n : ℕ). n % 2) (sym c.from-3.ensures) ∙ can.rows paired;
        columns_even = ap (λ (n : ℕ). n % 2) (sym c.from-4.ensures) ∙ can.columns paired;
        fours = ap (λ (n : ℕ). n % 4) (sym c.from-5.ensures) ∙ can.fours paired;
        narrow = λ l below.
            subst (λ (xs : List ℤ). IsNarrow xs) (column-turned matrix lent columns given l below is)
            (subst (λ (n : ℕ). IsNarrow (slice_range lent (l * n) (l * n + n))) c.from-4.ensures
            (can.narrow paired l (omega (arith, below, c.from-5.ensures))));
      },
    )
