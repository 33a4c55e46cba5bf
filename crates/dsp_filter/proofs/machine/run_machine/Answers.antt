use Rattle.std.proofs.Common.{◌∙◌, [], ◌∷◌, get_or, subst, arith}
use Rattle.dsp_defs.specs.Streaming.{Behaviour, GoesOn}
use Rattle.dsp_unit.proofs.GoingOn.{goes-more, rest-stays}
use Rattle.dsp_filter.proofs.machine.run_machine.Goals as goal

pub loop-sample-preserved : goal.loop-sample-preserved
loop-sample-preserved g c =
    let M = g.M.Machine in
    let number = g.T.Sample.number in
    let now = c.loop-sample.machine in
    let first = c.args.machine.now in
    let inputs = c.args.samples.now in
    let outputs = c.loop-sample.samples in
    let i = c.loop-sample.sample-index in
    let so_far = c.loop-sample.invariant in
    let step = c.step.ensures in
    let goes = subst (λ (b : Behaviour). GoesOn b.gives b.keeps (M.kept now) (M.kept c.step.new.self)
    (number (get_or outputs i c.sample-item.result) ∷ []) (number c.step.result ∷ [])) so_far.acts step.goes in
    record {
      acts = step.acts ∙ so_far.acts;
      goes = goes-more inputs outputs i c.sample-item.result (omega arith) (omega arith) so_far.rest number
          (M.acts first).gives (M.acts first).keeps (M.kept first) (M.kept now) (M.kept c.step.new.self) c.step.result
          so_far.goes goes;
      rest = rest-stays inputs outputs i c.sample-item.result (omega arith) (omega arith) so_far.rest c.step.result;
      steps = record {
        multiplies_rise = omega (arith, so_far.steps, step.steps);
        turns_rise =
            omega (arith, so_far.steps, step.steps);
      };
    }
