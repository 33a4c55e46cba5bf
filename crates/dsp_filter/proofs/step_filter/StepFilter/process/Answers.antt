use Rattle.std.proofs.Common.{◌≡◌, ◌∙◌, ◌≤◌, ◌*◌, ap, sym, subst, length, take, map, arith, length-take-le}
use Rattle.std.proofs.lemmas.List.{length-map}
use Rattle.dsp_defs.specs.Streaming.{GoesOn}
use Rattle.dsp_defs.specs.Counts.{Rises}
use Rattle.dsp_unit.specs.Filter.{of_channel}
use Rattle.dsp_defs.specs.Kept.{kept_of_channel}
use Rattle.dsp_unit.proofs.SteadyFilters.{stepwise-fed}
use Rattle.dsp_filter.proofs.Slices.{front-written}
use Rattle.dsp_filter.proofs.step_filter.StepFilter.process.Goals as goal

pub returns-clause-fed : goal.returns-clause-fed
returns-clause-fed g c =
    let T = g.T.Sample in
    let W = g.W.Stepwise in
    let work = c.self.inside.work in
    let block = W.block work in
    let capacity = c.self.inside.capacity in
    let is = g.met.W.Stepwise.stepwise block c.self.invariant in
    let e = c.run.ensures in
    let input = c.args.input.now in
    let samples = map T.number input in
    let given = map T.number c.run.new.samples in
    let room : length input ≤ length c.args.output.now = c.requires.room in
    let cut : length (take (length input) c.args.output.now) ≡ length input =
    length-take-le (length input) c.args.output.now room in
    let copied = c.copy_from_slice.ensures.after in
    let written : length c.run.new.samples ≡ length input = omega (arith, c.run.auto.samples, ap length copied) in
    let long : length samples ≡ length input = length-map input T.number in
    let goes = subst (λ l. GoesOn (of_channel T.format block) (kept_of_channel T.format block) (W.kept work)
    (W.kept c.run.new.self) (map T.number l) given) copied e.goes in
    let counted : length c.copy_from_slice.new.self ≡ length samples = omega (arith, ap length copied, long) in
    let rises = subst (λ n. Rises c.args.steps.now c.run.new.steps (n * W.price block) (n * W.price block)) counted
    e.steps in
    rw (← c.self.view_is)
    (rw (front-written (length input) c.run.new.samples c.args.output.now written)
    (stepwise-fed T.format block (W.block c.run.new.self) (W.price block) capacity is c.self.inside.ended
    (W.kept work) (W.kept c.run.new.self) samples given c.args.steps.now c.run.new.steps
    e.block (rw (← c.self.view_is) at c.requires.running) (length-map c.run.new.samples T.number ∙ written ∙ sym long)
    e.size goes rises))
