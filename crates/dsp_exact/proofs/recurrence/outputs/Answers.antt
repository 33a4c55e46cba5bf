use Rattle.std.proofs.Common.{◌≡◌, ◌∙◌, ◌+◌, ◌++◌, ◌∷◌, [], ap, sym, length, reverse, take, take_all, arith, refl}
use Rattle.dsp_exact.proofs.Pushed.{all-more}
use Rattle.dsp_defs.specs.Signal.{outputs}
use Rattle.dsp_defs.proofs.BlockLaws.{length-outputs}
use Rattle.dsp_exact.proofs.Recurrences.{outputs-next}
use Rattle.dsp_exact.proofs.recurrence.outputs.Goals as goal

pub loop-n-preserved : goal.loop-n-preserved
loop-n-preserved g c =
    let next = g.R.Recurrence.next c.args.recurrence.now in
    let x = c.args.x.now in
    let n = c.loop-n.n in
    let so_far = c.loop-n.invariant in
    let is : c.next-next.result ≡ next (reverse (take (n + 1) x)) (reverse (outputs next (take n x))) =
    c.next-next.ensures.value ∙ ap (λ ys. next (reverse (take (n + 1) x)) (reverse ys)) (c.as_slice.ensures.value
    ∙ so_far.values) in
    record {
      values = c.in_ok-push.ensures.items ∙ (λ i. so_far.values i ++ is i ∷ []) ∙ sym (outputs-next next x n
          c.loop-n-test.true);
      fits = all-more (g.R.Recurrence.IsValue c.args.recurrence.now) _ _ _ _ c.in_ok-push.ensures.items refl
          c.loop-n.invariant.fits c.next-next.ensures.fits;
      products = grind (arith, c.loop-n.invariant.products, c.next-next.ensures.products);
    }

pub returns-clause-values : goal.returns-clause-values
returns-clause-values g c =
    c.loop-n.invariant.values
    ∙ ap (outputs (g.R.Recurrence.next c.args.recurrence.now)) (take_all c.loop-n.n c.args.x.now (omega arith))

pub returns-clause-length : goal.returns-clause-length
returns-clause-length g c =
    ap length (returns-clause-values g c) ∙ length-outputs (g.R.Recurrence.next c.args.recurrence.now) c.args.x.now
