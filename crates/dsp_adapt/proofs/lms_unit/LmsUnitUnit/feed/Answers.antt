use Rattle.std.proofs.Common.{◌≡◌, ◌≤◌, ap, sym, refl, subst, Bool, ◌/◌, length, take, arith, length-take-le}
use Rattle.dsp_unit.specs.Unit.{Feeds, frames_in}
use Rattle.dsp_adapt.specs.LmsUnit.{unit_of_lms}
use Rattle.dsp_adapt.proofs.LmsUnits.{lms-feeds, lms-output}
use Rattle.dsp_adapt.proofs.lms_unit.LmsUnitUnit.feed.Goals as goal

pub returns-clause-output : goal.returns-clause-output
returns-clause-output g c =
    let frames = c.args.frames.now in
    let u = c.self.inside in
    let signal = rw (← c.self.view_is) at c.requires.signal in
    let few = rw (← c.self.view_is) at c.requires.capacity in
    let room = rw (← c.self.view_is) at c.requires.room in
    let within : length frames ≤ length c.feed_pairs.new.out =
    omega (arith, signal.whole_frames, few, room, c.feed_pairs.auto.out) in
    rw (← c.self.view_is)
    (lms-output g.T.Sample.format u.lms u.ended frames (take (length frames) c.feed_pairs.new.out) signal.whole_frames
    few (length-take-le (length frames) c.feed_pairs.new.out within) c.feed_pairs.ensures.in_format)

pub returns-clause-fed : goal.returns-clause-fed
returns-clause-fed g c =
    let format = g.T.Sample.format in
    let frames = c.args.frames.now in
    let u = c.self.inside in
    let signal = rw (← c.self.view_is) at c.requires.signal in
    let few = rw (← c.self.view_is) at c.requires.capacity in
    let room = rw (← c.self.view_is) at c.requires.room in
    let within : length frames ≤ length c.feed_pairs.new.out =
    omega (arith, signal.whole_frames, few, room, c.feed_pairs.auto.out) in
    let rows = c.self.invariant in
    let done = c.feed_pairs.ensures in
    let out = take (length frames) c.feed_pairs.new.out in
    let running = rw (← c.self.view_is) at c.requires.running in
    let size : length out / 2 ≡ length frames / 2 = ap (λ n. n / 2)
    (length-take-le (length frames) c.feed_pairs.new.out within) in
    rw (← c.self.view_is)
    (subst (λ (e : Bool). Feeds (unit_of_lms format u.lms e) (unit_of_lms format c.feed_pairs.new.lms e)
    (frames_in 2 frames) (frames_in 2 out) c.args.steps.now c.feed_pairs.new.steps) (sym running)
    (lms-feeds format u.lms c.feed_pairs.new.lms rows.past_long rows.weights_long done.same done.past done.weights
    frames out (length frames / 2) c.args.steps.now c.feed_pairs.new.steps refl size done.frames done.stands
    done.multiplies done.turns))
