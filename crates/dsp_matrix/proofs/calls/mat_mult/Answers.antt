use Rattle.std.proofs.Common.{◌∙◌, ◌+◌, ◌*◌, ap₂, sym}
use Rattle.std.proofs.lemmas.List.{map-id}
use Rattle.dsp_defs.specs.Signal.{values}
use Rattle.dsp_defs.specs.declared.format.Fmt.TheVariants.{Q15}
use Rattle.dsp_matrix.specs.Matrices.{product_element}
use Rattle.dsp_matrix.proofs.calls.mat_mult.Goals as goal

pub returns-clause-out : goal.returns-clause-out
returns-clause-out g c =
    sym (map-id c.multiply.new.out)
    ∙ c.multiply.ensures.out
    ∙ ap₂ (λ a b. values (c.args.rows * c.args.given) (product_element Q15 (λ rows columns k l. k * columns + l)
    c.args.columns c.args.given a b)) (map-id c.args.a.now) (map-id c.args.b.now)
