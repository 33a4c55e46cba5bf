use Rattle.std.proofs.Common.{◌≡◌, ◌∙◌, ◌≤◌, length, take, arith, ap, refl}
use Rattle.dsp_chain.proofs.Room.{last-fed, first-fed, behind-takes, behind-runs, fed-room}
use Rattle.dsp_chain.proofs.Room.{written-front}
use Rattle.dsp_chain.specs.Line.{MayTake, given_by}
use Rattle.dsp_chain.proofs.line.+feed_line.Goals as goal

-- the first unit gave the frames as they are, and the line behind it is fed with them
pub feed_line-requires : goal.feed_line-requires
feed_line-requires g t c κs within = (
  omega (arith, ap length c.in_ok-links.ensures.cases.0, c.decreases),
  (
    within.0,
    (
      within.1,
      (
        behind-runs c.args.links.now c.in_ok-links.link.now (g.S.Unit.unit c.link.inside.unit)
            c.in_ok-links.behind.now c.in_ok-links.ensures.cases.0 c.link.view_is c.requires.running,
        behind-takes c.args.links.now c.in_ok-links.link.now (g.S.Unit.unit c.link.inside.unit)
            (g.S.Unit.unit c.pass.new.self) c.in_ok-links.behind.now c.args.frames.now c.args.frames.now
            (length c.args.out.now) c.args.steps.now c.pass.new.steps c.in_ok-links.ensures.cases.0 c.link.view_is
            (c.if-pass.ensures.output refl) (c.if-pass.ensures.fed refl) c.requires.passes,
      ),
    ),
  ),
)

pub returns-then-pass-clause-fed : goal.returns-then-pass-clause-fed
returns-then-pass-clause-fed g t c = λ p line passes.
    first-fed p c.args.links.now c.in_ok-links.link.now (g.S.Unit.unit c.link.inside.unit)
    (g.S.Unit.unit c.pass.new.self) c.in_ok-links.behind.now c.feed_line.new.links
    c.args.frames.now c.args.frames.now (given_by c.feed_line.result c.args.frames.now c.feed_line.new.out)
    c.args.steps.now c.pass.new.steps c.feed_line.new.steps
    c.in_ok-links.ensures.cases.0 c.link.view_is c.if-pass.ensures.running (c.if-pass.ensures.output refl)
    (c.if-pass.ensures.fed refl) c.feed_line.ensures.fed line

-- it refused them, and is as it was
pub returns-then-is_empty-clause-fed : goal.returns-then-is_empty-clause-fed
returns-then-is_empty-clause-fed g t c = λ p line passes.
    let still = c.if-pass.ensures.refused refl in
    let behind = c.in_ok-links.behind.now in
    let piece = take c.feed.result c.feed.new.out in
    let none : length behind ≡ 0 = grind (arith, c.if-is_empty.ensures) in
    first-fed p c.args.links.now c.in_ok-links.link.now (g.S.Unit.unit c.pass.new.self)
    (g.S.Unit.unit c.feed.new.self) behind behind c.args.frames.now piece piece c.args.steps.now c.feed.new.steps
    c.feed.new.steps c.in_ok-links.ensures.cases.0 (still.0 ∙ c.link.view_is) c.feed.ensures.running
    c.feed.ensures.output (rw still.1 at c.feed.ensures.fed) (λ q r s. last-fed behind q piece c.feed.new.steps none s)
    line

pub feed_line-given-requires : goal.feed_line-given-requires
feed_line-given-requires g t c κs within =
    let still = c.if-pass.ensures.refused refl in
    let piece = take c.feed-count.result c.feed-count.new.out in
    let piece_is : take c.feed-count.result c.deref.result.now ≡ piece =
    written-front c.feed-count.result c.link.inside.written.len c.feed-count.new.out c.link.inside.written.items
    c.deref.result.now c.deref.ensures.value (c.feed-count.auto.out ∙ c.deref_mut.ensures.len) in
    let may : MayTake c.in_ok-links.behind.now piece (length c.args.out.now) =
    behind-takes c.args.links.now c.in_ok-links.link.now (g.S.Unit.unit c.pass.new.self)
    (g.S.Unit.unit c.feed-count.new.self) c.in_ok-links.behind.now c.args.frames.now
    piece (length c.args.out.now) c.pass.new.steps c.feed-count.new.steps
    c.in_ok-links.ensures.cases.0 (still.0 ∙ c.link.view_is) c.feed-count.ensures.output
    c.feed-count.ensures.fed c.requires.passes in (
      omega (arith, ap length c.in_ok-links.ensures.cases.0, c.decreases),
      (
        within.0,
        (
          within.1,
          (
            behind-runs c.args.links.now c.in_ok-links.link.now (g.S.Unit.unit c.link.inside.unit)
                c.in_ok-links.behind.now c.in_ok-links.ensures.cases.0 c.link.view_is c.requires.running,
            rw piece_is may,
          ),
        ),
      ),
    )

pub write_given-requires-clause-within : goal.write_given-requires-clause-within
write_given-requires-clause-within g t c =
    let still = c.if-pass.ensures.refused refl in
    let piece = take c.feed-count.result c.feed-count.new.out in
    let written = take c.feed-count.result c.deref.result.now in
    let piece_is : written ≡ piece =
    written-front c.feed-count.result c.link.inside.written.len c.feed-count.new.out c.link.inside.written.items
    c.deref.result.now c.deref.ensures.value (c.feed-count.auto.out ∙ c.deref_mut.ensures.len) in
    let may : MayTake c.in_ok-links.behind.now piece (length c.args.out.now) =
    behind-takes c.args.links.now c.in_ok-links.link.now (g.S.Unit.unit c.pass.new.self)
    (g.S.Unit.unit c.feed-count.new.self) c.in_ok-links.behind.now c.args.frames.now
    piece (length c.args.out.now) c.pass.new.steps c.feed-count.new.steps
    c.in_ok-links.ensures.cases.0 (still.0 ∙ c.link.view_is) c.feed-count.ensures.output
    c.feed-count.ensures.fed c.requires.passes in
    let given = given_by c.feed_line-given.result written c.feed_line-given.new.out in
    let room : length given ≤ length c.args.out.now =
    fed-room c.in_ok-links.behind.now c.feed_line-given.new.links written given (length c.args.out.now)
    c.feed-count.new.steps c.feed_line-given.new.steps (rw piece_is may) c.feed_line-given.ensures.fed in
    omega (arith, room, c.feed_line-given.auto.out)

pub returns-clause-fed : goal.returns-clause-fed
returns-clause-fed g t c = λ p line passes.
    let still = c.if-pass.ensures.refused refl in
    let piece = take c.feed-count.result c.feed-count.new.out in
    let piece_is : take c.feed-count.result c.deref.result.now ≡ piece =
    written-front c.feed-count.result c.link.inside.written.len c.feed-count.new.out c.link.inside.written.items
    c.deref.result.now c.deref.ensures.value (c.feed-count.auto.out ∙ c.deref_mut.ensures.len) in
    rw (c.write_given.ensures.given, piece_is)
    (first-fed p c.args.links.now c.in_ok-links.link.now (g.S.Unit.unit c.pass.new.self)
    (g.S.Unit.unit c.feed-count.new.self) c.in_ok-links.behind.now c.feed_line-given.new.links
    c.args.frames.now piece (given_by c.feed_line-given.result piece c.feed_line-given.new.out)
    c.args.steps.now c.feed-count.new.steps c.feed_line-given.new.steps
    c.in_ok-links.ensures.cases.0 (still.0 ∙ c.link.view_is) c.feed-count.ensures.running c.feed-count.ensures.output
    (rw still.1 at c.feed-count.ensures.fed)
    (λ q r s. rw piece_is at (c.feed_line-given.ensures.fed q r (rw (← piece_is) at s)))
    line)
