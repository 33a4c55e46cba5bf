use Rattle.std.proofs.Common.{◌∙◌, refl, sym, subst, ℕ, ℤ, List, ◌+◌, ◌*◌, ◌/◌, ◌≤◌, length, arith}
use Rattle.std.specs.Prelude.{IsFalse}
use Rattle.dsp_defs.specs.Counts.{Rises}
use Rattle.dsp_defs.proofs.FrameLemmas.{length-frames_in}
use Rattle.dsp_unit.specs.Unit.{IsSignal, UnitState, room_of}
use Rattle.dsp_measure.specs.Measures.{AllCanTake, PartsFeed, channels_of, parts_of, price_of}
use Rattle.dsp_measure.proofs.MeasureUnits.{is-measuring, state, can-take, channels-stay, measure-feeds, measure-output}
use Rattle.dsp_measure.proofs.MeasureUnits.{measure-room, whole-row}
use Rattle.dsp_measure.proofs.unit.MeasureUnit.take.Goals as goal

pub feed_parts-requires-clause-kept : goal.feed_parts-requires-clause-kept
feed_parts-requires-clause-kept g c =
    let u = c.self.inside in
    let running = rw (← c.self.view_is) at c.requires.running in
    let accepts = rw (← c.self.view_is) at c.requires.accepts in
    let taken = can-take u.measure (state u.measure u.format u.channels u.capacity u.kept.items u.ended) _
    (is-measuring u.measure u.format u.channels u.capacity u.kept.items u.ended running) c.self.invariant.fits
    accepts in
    rw (c.from-channels.ensures, c.as_mut_slice-kept.ensures.value)
    (subst (λ k. AllCanTake u.format u.channels u.measure k u.kept.items)
    (length-frames_in u.channels c.args.frames.now) taken)

pub invariant_of-self : goal.invariant_of-self
invariant_of-self g c =
    let u = c.self.inside in
    let frames = c.args.frames.now in
    let new = c.feed_parts.new.kept in
    let running = rw (← c.self.view_is) at c.requires.running in
    let accepts = rw (← c.self.view_is) at c.requires.accepts in
    let taken = can-take u.measure (state u.measure u.format u.channels u.capacity u.kept.items u.ended) _
    (is-measuring u.measure u.format u.channels u.capacity u.kept.items u.ended running) c.self.invariant.fits
    accepts in
    let many = subst (λ k. AllCanTake u.format u.channels u.measure k u.kept.items)
    (length-frames_in u.channels frames) taken in
    let kept = whole-row u.kept.len new u.kept.items (c.feed_parts.auto.kept ∙ c.as_mut_slice-kept.ensures.len) in
    let fed = subst (λ (p : ℕ × List ℤ). PartsFeed u.format u.measure p.0 frames p.1 new)
    (λ i. (c.from-channels.ensures i, c.as_mut_slice-kept.ensures.value i)) c.feed_parts.ensures.fed in
    rw kept (record {
      enough = c.self.invariant.enough;
      narrow = c.self.invariant.narrow;
      few =
          c.self.invariant.few;
      fits = (many.0 + length frames / u.channels, (many.2, fed.kinds many.0 many.1));
    })

pub feed_parts-requires-clause-channels : goal.feed_parts-requires-clause-channels
feed_parts-requires-clause-channels g c = subst (λ k. channels_of c.self.inside.measure ≤ k)
    (sym c.from-channels.ensures) c.self.invariant.enough

pub feed_parts-requires-clause-in_format : goal.feed_parts-requires-clause-in_format
feed_parts-requires-clause-in_format g c =
    (subst (λ (u : UnitState). IsSignal u.format u.channels c.args.frames.now) (sym c.self.view_is)
    c.requires.signal).in_format

pub returns-clause-running : goal.returns-clause-running
returns-clause-running g c = subst (λ (u : UnitState). IsFalse u.ended) (sym c.self.view_is) c.requires.running

pub returns-clause-fed : goal.returns-clause-fed
returns-clause-fed g c =
    let u = c.self.inside in
    let frames = c.args.frames.now in
    let new = c.feed_parts.new.kept in
    let running = rw (← c.self.view_is) at c.requires.running in
    let kept = whole-row u.kept.len new u.kept.items (c.feed_parts.auto.kept ∙ c.as_mut_slice-kept.ensures.len) in
    let fed = subst (λ (p : ℕ × List ℤ). PartsFeed u.format u.measure p.0 frames p.1 new)
    (λ i. (c.from-channels.ensures i, c.as_mut_slice-kept.ensures.value i)) c.feed_parts.ensures.fed in
    let rises = subst (λ k. Rises c.args.steps.now c.feed_parts.new.steps
    (parts_of u.measure k * (price_of u.measure * (length frames / k)))
    (parts_of u.measure k * (price_of u.measure * (length frames / k)))) c.from-channels.ensures
    c.feed_parts.ensures.steps in
    rw (← c.self.view_is, channels-stay u.format u.channels u.measure, kept)
    (measure-feeds u.measure (state u.measure u.format u.channels u.capacity u.kept.items u.ended)
    (state u.measure u.format u.channels u.capacity new u.ended) frames c.args.steps.now c.feed_parts.new.steps
    (is-measuring u.measure u.format u.channels u.capacity u.kept.items u.ended running)
    (is-measuring u.measure u.format u.channels u.capacity new u.ended running)
    (record { block = refl; format = refl; channels = refl; capacity = refl; banked = refl })
    c.self.invariant.fits fed rises)

pub returns-clause-room : goal.returns-clause-room
returns-clause-room g c =
    let u = c.self.inside in
    let s = state u.measure u.format u.channels u.capacity u.kept.items u.ended in
    rw (← c.self.view_is)
    (measure-room u.measure s c.args.frames.now (room_of s) refl
    (rw (← c.self.view_is) at c.requires.signal) (rw (← c.self.view_is) at c.requires.capacity) (omega arith))

pub returns-clause-output : goal.returns-clause-output
returns-clause-output g c =
    let u = c.self.inside in
    let running = rw (← c.self.view_is) at c.requires.running in
    rw (← c.self.view_is)
    (measure-output u.measure (state u.measure u.format u.channels u.capacity u.kept.items u.ended) c.args.frames.now
    (is-measuring u.measure u.format u.channels u.capacity u.kept.items u.ended running)
    (rw (← c.self.view_is) at c.requires.signal) (rw (← c.self.view_is) at c.requires.capacity))
