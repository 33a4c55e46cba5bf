use Rattle.std.proofs.Common.{◌≡◌, length, take, ◌<◌, ◌≤◌, arith, length-take, ◌∙◌, refl}
use Rattle.dsp_unit.specs.Line.{Place, Passes, InLine}
use Rattle.dsp_chain.specs.Line.{MayTake, given_by}
use Rattle.dsp_chain.proofs.Room.{written-front, fed-room}
use Rattle.dsp_chain.proofs.Tails.{none-finished, none-spent, spent-finished, spent-now, given-finished}
use Rattle.dsp_chain.proofs.Tails.{more-finished, shorter, goes-on, tail-takes, tail-runs, nil-take}
use Rattle.dsp_chain.proofs.line.+finish_first.Goals as goal

pub returns-in_default-clause-finished : goal.returns-in_default-clause-finished
returns-in_default-clause-finished g t c = λ p line. none-finished p c.args.links.now c.args.steps.now
    c.in_default.ensures.cases

pub returns-in_default-clause-spent : goal.returns-in_default-clause-spent
returns-in_default-clause-spent g t c = λ _. (none-spent c.args.links.now c.in_default.ensures.cases).1

pub returns-then-count-eq0-clause-finished : goal.returns-then-count-eq0-clause-finished
returns-then-count-eq0-clause-finished g t c = λ p line.
    spent-finished p c.args.links.now c.in-Some.link.now (g.S.Unit.unit c.link.inside.unit)
    (g.S.Unit.unit c.finish-count.new.self) c.in-Some.behind.now
    c.in-Some.ensures.cases.0 c.link.view_is (take c.finish-count.result c.finish-count.new.out) c.args.steps.now
    c.finish-count.new.steps c.finish-count.ensures.finished
    (rw c.if-count-eq0.true refl) line

pub returns-then-count-eq0-clause-spent : goal.returns-then-count-eq0-clause-spent
returns-then-count-eq0-clause-spent g t c = λ _.
    spent-now c.requires.place c.args.links.now c.in-Some.link.now (g.S.Unit.unit c.link.inside.unit)
    (g.S.Unit.unit c.finish-count.new.self) c.in-Some.behind.now
    c.in-Some.ensures.cases.0 c.link.view_is (take c.finish-count.result c.finish-count.new.out) c.args.steps.now
    c.finish-count.new.steps c.finish-count.ensures.finished
    (rw c.if-count-eq0.true refl)

pub returns-then-given-gt0-clause-finished : goal.returns-then-given-gt0-clause-finished
returns-then-given-gt0-clause-finished g t c = λ p line.
    let piece = take c.finish-count.result c.finish-count.new.out in
    let piece_is : take c.finish-count.result c.deref.result.now ≡ piece =
    written-front c.finish-count.result c.link.inside.written.len c.finish-count.new.out c.link.inside.written.items
    c.deref.result.now c.deref.ensures.value (c.finish-count.auto.out ∙ c.deref_mut.ensures.len) in
    let some : 0 < length piece = omega (
      arith,
      length-take c.finish-count.result c.finish-count.new.out,
      c.finish-count.ensures.within,
      c.finish-count.auto.out,
      c.if-count-eq0.false,
    ) in
    let given = given_by c.feed_line-fed.result piece c.feed_line-fed.new.out in
    let rest = λ (q : Place) (r : InLine q c.in-Some.behind.now) (s : Passes q piece). rw piece_is at
    (c.feed_line-fed.ensures.fed q r (rw (← piece_is) at s)) in
    rw (c.write_given-given.ensures.given, piece_is)
    (given-finished p c.args.links.now c.in-Some.link.now (g.S.Unit.unit c.link.inside.unit)
    (g.S.Unit.unit c.finish-count.new.self) c.in-Some.behind.now
    c.in-Some.ensures.cases.0 c.link.view_is piece c.args.steps.now c.finish-count.new.steps
    c.finish-count.ensures.finished c.finish-count.ensures.output some
    c.feed_line-fed.new.links given c.feed_line-fed.new.steps
    rest line)

pub finish_first-requires : goal.finish_first-requires
finish_first-requires g t c κs within =
    let p = c.requires.place in
    let line = c.requires.line in
    let piece = take c.finish-count.result c.finish-count.new.out in
    let piece_is : take c.finish-count.result c.deref.result.now ≡ piece =
    written-front c.finish-count.result c.link.inside.written.len c.finish-count.new.out c.link.inside.written.items
    c.deref.result.now c.deref.ensures.value (c.finish-count.auto.out ∙ c.deref_mut.ensures.len) in
    let some : 0 < length piece = omega (
      arith,
      length-take c.finish-count.result c.finish-count.new.out,
      c.finish-count.ensures.within,
      c.finish-count.auto.out,
      c.if-count-eq0.false,
    ) in
    let given = given_by c.feed_line-fed.result piece c.feed_line-fed.new.out in
    let rest = λ (q : Place) (r : InLine q c.in-Some.behind.now) (s : Passes q piece). rw piece_is at
    (c.feed_line-fed.ensures.fed q r (rw (← piece_is) at s)) in
    let finished = given-finished p c.args.links.now c.in-Some.link.now (g.S.Unit.unit c.link.inside.unit)
    (g.S.Unit.unit c.finish-count.new.self) c.in-Some.behind.now
    c.in-Some.ensures.cases.0 c.link.view_is piece c.args.steps.now c.finish-count.new.steps
    c.finish-count.ensures.finished c.finish-count.ensures.output some
    c.feed_line-fed.new.links given c.feed_line-fed.new.steps
    rest line in
    let less = shorter p c.args.links.now c.in-Some.link.now (g.S.Unit.unit c.link.inside.unit)
    (g.S.Unit.unit c.finish-count.new.self) c.in-Some.behind.now
    c.in-Some.ensures.cases.0 c.link.view_is piece c.args.steps.now c.finish-count.new.steps
    c.finish-count.ensures.finished c.finish-count.ensures.output some
    c.feed_line-fed.new.links given c.feed_line-fed.new.steps
    rest line in (
      omega (arith, less, c.decreases),
      (
        within.0,
        (
          within.1,
          rw (c.write_given-given.auto.out, c.feed_line-fed.auto.out) (goes-on p c.args.links.now _ _
              c.args.steps.now c.feed_line-fed.new.steps (length c.args.out.now) c.requires refl finished),
        ),
      ),
    )

pub returns-clause-finished : goal.returns-clause-finished
returns-clause-finished g t c = λ p line.
    let piece = take c.finish-count.result c.finish-count.new.out in
    let piece_is : take c.finish-count.result c.deref.result.now ≡ piece =
    written-front c.finish-count.result c.link.inside.written.len c.finish-count.new.out c.link.inside.written.items
    c.deref.result.now c.deref.ensures.value (c.finish-count.auto.out ∙ c.deref_mut.ensures.len) in
    let some : 0 < length piece = omega (
      arith,
      length-take c.finish-count.result c.finish-count.new.out,
      c.finish-count.ensures.within,
      c.finish-count.auto.out,
      c.if-count-eq0.false,
    ) in
    let given = given_by c.feed_line-fed.result piece c.feed_line-fed.new.out in
    let rest = λ (q : Place) (r : InLine q c.in-Some.behind.now) (s : Passes q piece). rw piece_is at
    (c.feed_line-fed.ensures.fed q r (rw (← piece_is) at s)) in
    more-finished p c.args.links.now c.in-Some.link.now (g.S.Unit.unit c.link.inside.unit)
    (g.S.Unit.unit c.finish-count.new.self) c.in-Some.behind.now
    c.in-Some.ensures.cases.0 c.link.view_is piece c.args.steps.now c.finish-count.new.steps
    c.finish-count.ensures.finished c.finish-count.ensures.output some
    c.feed_line-fed.new.links given c.feed_line-fed.new.steps
    rest line
    c.finish_first.new.links (take c.finish_first.result c.finish_first.new.out) c.finish_first.new.steps
    (rw (c.write_given-given.ensures.given, piece_is) at
    (nil-take c.write_given-given.result c.write_given-given.new.out (omega (arith, c.if-given-gt0.false))))
    c.finish_first.ensures.finished

pub feed_line-fed-requires-clause-passes : goal.feed_line-fed-requires-clause-passes
feed_line-fed-requires-clause-passes g t c =
    let piece = take c.finish-count.result c.finish-count.new.out in
    let piece_is : take c.finish-count.result c.deref.result.now ≡ piece =
    written-front c.finish-count.result c.link.inside.written.len c.finish-count.new.out c.link.inside.written.items
    c.deref.result.now c.deref.ensures.value (c.finish-count.auto.out ∙ c.deref_mut.ensures.len) in
    let some : 0 < length piece = omega (
      arith,
      length-take c.finish-count.result c.finish-count.new.out,
      c.finish-count.ensures.within,
      c.finish-count.auto.out,
      c.if-count-eq0.false,
    ) in
    rw piece_is
    (tail-takes c.requires.place c.args.links.now c.in-Some.link.now (g.S.Unit.unit c.link.inside.unit)
    (g.S.Unit.unit c.finish-count.new.self) c.in-Some.behind.now
    c.in-Some.ensures.cases.0 c.link.view_is piece c.args.steps.now c.finish-count.new.steps
    c.finish-count.ensures.finished c.finish-count.ensures.output some (length c.args.out.now) c.requires)

pub feed_line-fed-requires-clause-running : goal.feed_line-fed-requires-clause-running
feed_line-fed-requires-clause-running g t c =
    let piece = take c.finish-count.result c.finish-count.new.out in
    let some : 0 < length piece = omega (
      arith,
      length-take c.finish-count.result c.finish-count.new.out,
      c.finish-count.ensures.within,
      c.finish-count.auto.out,
      c.if-count-eq0.false,
    ) in
    tail-runs c.requires.place c.args.links.now c.in-Some.link.now (g.S.Unit.unit c.link.inside.unit)
    (g.S.Unit.unit c.finish-count.new.self) c.in-Some.behind.now
    c.in-Some.ensures.cases.0 c.link.view_is piece c.args.steps.now c.finish-count.new.steps
    c.finish-count.ensures.finished c.finish-count.ensures.output some (length c.args.out.now) c.requires

pub write_given-given-requires-clause-within : goal.write_given-given-requires-clause-within
write_given-given-requires-clause-within g t c =
    let piece = take c.finish-count.result c.finish-count.new.out in
    let written = take c.finish-count.result c.deref.result.now in
    let piece_is : written ≡ piece =
    written-front c.finish-count.result c.link.inside.written.len c.finish-count.new.out c.link.inside.written.items
    c.deref.result.now c.deref.ensures.value (c.finish-count.auto.out ∙ c.deref_mut.ensures.len) in
    let some : 0 < length piece = omega (
      arith,
      length-take c.finish-count.result c.finish-count.new.out,
      c.finish-count.ensures.within,
      c.finish-count.auto.out,
      c.if-count-eq0.false,
    ) in
    let may : MayTake c.in-Some.behind.now piece (length c.args.out.now) =
    tail-takes c.requires.place c.args.links.now c.in-Some.link.now (g.S.Unit.unit c.link.inside.unit)
    (g.S.Unit.unit c.finish-count.new.self) c.in-Some.behind.now
    c.in-Some.ensures.cases.0 c.link.view_is piece c.args.steps.now c.finish-count.new.steps
    c.finish-count.ensures.finished c.finish-count.ensures.output some (length c.args.out.now) c.requires in
    let given = given_by c.feed_line-fed.result written c.feed_line-fed.new.out in
    let room : length given ≤ length c.args.out.now =
    fed-room c.in-Some.behind.now c.feed_line-fed.new.links written given (length c.args.out.now)
    c.finish-count.new.steps c.feed_line-fed.new.steps (rw piece_is may) c.feed_line-fed.ensures.fed in
    omega (arith, room, c.feed_line-fed.auto.out)
