use Rattle.std.proofs.Common.{take, length, arith, ap, subst}
use Rattle.dsp_unit.specs.Line.{IsFinished}
use Rattle.dsp_chain.proofs.Tails.{behind-gave, behind-may, nil-take}
use Rattle.dsp_chain.proofs.line.+finish_line.Goals as goal

pub finish_line-requires : goal.finish_line-requires
finish_line-requires g t c κs within =
    let finished = c.finish_first-given.ensures.finished c.requires.place c.requires.line in
    let spent = c.finish_first-given.ensures.spent (omega (arith, c.if-given-gt0.false)) in
    let may = behind-may c.args.links.now c.finish_first-given.new.links c.in-Some.behind.now c.in-Some._spent.now _
    c.args.steps.now c.finish_first-given.new.steps (length c.args.out.now) c.requires c.in-Some.ensures.cases.0
    finished spent in (
      omega (arith, ap length c.in-Some.ensures.cases.0, c.finish_first-given.auto.links, c.decreases),
      (within.0, (within.1, rw c.finish_first-given.auto.out may)),
    )

pub returns-clause-finished : goal.returns-clause-finished
returns-clause-finished g t c = λ p line.
    behind-gave p c.args.links.now c.finish_first-given.new.links c.in-Some.behind.now c.finish_line.new.links
    c.in-Some._spent.now
    (take c.finish_first-given.result c.finish_first-given.new.out) (take c.finish_line.result c.finish_line.new.out)
    c.args.steps.now c.finish_first-given.new.steps c.finish_line.new.steps
    (nil-take c.finish_first-given.result c.finish_first-given.new.out (omega (arith, c.if-given-gt0.false)))
    c.in-Some.ensures.cases.0 line (c.finish_first-given.ensures.finished p line)
    (c.finish_first-given.ensures.spent (omega (arith, c.if-given-gt0.false))) c.finish_line.ensures.finished

pub returns-in_default-clause-finished : goal.returns-in_default-clause-finished
returns-in_default-clause-finished g t c = λ p line.
    subst (λ given. IsFinished p c.args.links.now c.finish_first-given.new.links given c.args.steps.now
    c.finish_first-given.new.steps)
    (nil-take c.finish_first-given.result c.finish_first-given.new.out (omega (arith, c.if-given-gt0.false)))
    (c.finish_first-given.ensures.finished p line)
