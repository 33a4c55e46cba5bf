use Rattle.std.proofs.Common.{◌≡◌, ◌∙◌, ◌++◌, ◌∷◌, [], ap, sym, length, arith}
use Rattle.std.specs.Int.{w32}
use Rattle.std.specs.Prelude.{FitsSigned}
use Rattle.dsp_defs.specs.Formats.{word}
use Rattle.std.proofs.lemmas.Int.{to_z-of_z}
use Rattle.dsp_exact.proofs.Pushed.{all-more}
use Rattle.dsp_exact.proofs.Steps.{values-push}
use Rattle.dsp_defs.proofs.BlockLaws.{length-values}
use Rattle.dsp_exact.proofs.formula.values.Goals as goal

pub loop-n-preserved : goal.loop-n-preserved
loop-n-preserved g c =
    let one = to_z-of_z w32 c.at.result (record { sfits = c.at.type_inv }) in
    record {
      values = c.in_ok-push.ensures.items
          ∙ (λ i. c.loop-n.invariant.values i ++ (one ∙ c.at.ensures.value) i ∷ [])
          ∙ sym (values-push (g.F.Formula.at c.args.formula.now) c.loop-n.n);
      fits = all-more (FitsSigned (word (g.F.Formula.format c.args.formula.now))) _ _ _ c.at.result
          c.in_ok-push.ensures.items one
          c.loop-n.invariant.fits c.at.ensures.fits;
      products = grind (arith, c.loop-n.invariant.products, c.at.ensures.products);
    }

pub returns-clause-length : goal.returns-clause-length
returns-clause-length g c =
    let all : c.loop-n.n ≡ c.args.count = omega arith in
    ap length c.loop-n.invariant.values ∙ length-values c.loop-n.n (g.F.Formula.at c.args.formula.now) ∙ all
