use Rattle.std.proofs.Common.{◌≡◌, ◌∙◌, ◌+◌, ◌*◌, ap, ap₂, sym, map, length, ℤ}
use Rattle.std.proofs.lemmas.List.{map-id}
use Rattle.dsp_defs.specs.Matrix.{multiplied}
use Rattle.dsp_defs.specs.Signal.{values}
use Rattle.dsp_defs.proofs.BlockLaws.{length-values}
use Rattle.dsp_defs.specs.declared.format.Fmt.TheVariants.{Q15}
use Rattle.dsp_matrix.specs.Matrices.{product_element}
use Rattle.dsp_matrix.proofs.RowWrites.{turned-element}
use Rattle.dsp_matrix.proofs.product_work.ProductWorkGroupWorkI16.transform.Goals as goal

pub multiply-requires-clause-matrix : goal.multiply-requires-clause-matrix
multiply-requires-clause-matrix g c =
    ap length c.deref-2.ensures.value ∙ ap length c.self.invariant.0 ∙
    length-values (c.self.inside.columns * c.self.inside.given) _ ∙
    sym (ap₂ (λ n m. n * m) c.from-columns.ensures c.from-given.ensures)

pub returns-clause-out : goal.returns-clause-out
returns-clause-out g c =
    let p = c.self.inside in
    let samples = map (λ (x : ℤ). x) c.args.samples.now in
    let turned : map (λ (x : ℤ). x) c.deref-2.result.now ≡ p.turned.items = map-id c.deref-2.result.now ∙
    c.deref-2.ensures.value in
    rw (← c.self.view_is)
    (c.multiply.ensures.out
    ∙ (λ i. values (c.from-rows.ensures i * c.from-given.ensures i)
    (product_element Q15 (λ rows columns k l. l * rows + k) (c.from-columns.ensures i) (c.from-given.ensures i)
    samples (turned i)))
    ∙ turned-element Q15 p.columns p.given samples p.matrix.items p.turned.items p.rows c.self.invariant.0)

pub returns-then-self-clause-out : goal.returns-then-self-clause-out
returns-then-self-clause-out g c =
    rw (← c.self.view_is)
    (map-id c.multiply_in_pairs.new.out
    ∙ c.multiply_in_pairs.ensures.out
    ∙ (λ i. values (c.from-rows.ensures i * c.from-given.ensures i)
    (multiplied (c.from-columns.ensures i) (c.from-given.ensures i) (c.deref.ensures.value i)
    (sym (map-id c.args.samples.now) i))))
