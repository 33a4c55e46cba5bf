use Rattle.std.proofs.Common.{◌≡◌, ◌∙◌, ◌*◌, ap, ap₂, sym, subst, ℤ, List, length}
use Rattle.std.specs.Prelude.{All, FitsSigned}
use Rattle.std.proofs.lemmas.List.{map-id}
use Rattle.dsp_defs.specs.Numbers.{w16}
use Rattle.dsp_defs.specs.declared.format.Fmt.TheVariants.{Q15}
use Rattle.dsp_matrix.specs.Faults.{side_fault, sides_fault, count_fault}
use Rattle.dsp_matrix.specs.Matrices.{ProductState, IsProductIn, block_of_product}
use Rattle.dsp_matrix.proofs.Sound.{no-fault, sound-side, sound-sides, sound-count}
use Rattle.dsp_matrix.proofs.grouped.GroupFilter+i16+ProductWork.new.Goals as goal

pub of_work-requires-clause-block : goal.of_work-requires-clause-block
of_work-requires-clause-block c =
    let list = c.args.list.now in
    let sides = sound-sides c.args.rows c.args.columns (no-fault (sides_fault c.args.rows c.args.columns)
    c.check_sides.result c.check_sides.ensures c.in_ok-check_sides.was) in
    let given = sound-side c.args.given (no-fault (side_fault c.args.given) c.check_side.result c.check_side.ensures
    c.in_ok-check_side.was) in
    let wanted = c.from.result * c.from-2.result in
    let counted = sound-count wanted (length list) (no-fault (count_fault wanted (length list)) c.check_count.result
    c.check_count.ensures c.in_ok-check_count.was) in
    let items : c.in-Ok.matrix.items ≡ list = c.in-Ok.ensures.items in
    let count : length c.in-Ok.matrix.items ≡ c.args.columns * c.args.given = ap length items ∙ counted ∙
    ap₂ (λ n m. n * m) c.from.ensures c.from-2.ensures in
    let P : List ℤ → Type 0 = λ l. All (FitsSigned w16) l in
    let fits = subst P (map-id list ∙ sym items) c.all_fit.ensures in
    subst (λ (p : ProductState). IsProductIn Q15 (block_of_product p)) (sym c.in-Ok-new.ensures)
    (sides.0, sides.1, given, (count, fits))
