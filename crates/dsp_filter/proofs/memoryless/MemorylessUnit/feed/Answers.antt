use Rattle.std.proofs.Common.{refl}
use Rattle.dsp_filter.specs.Memoryless.{price}
use Rattle.dsp_filter.proofs.MemorylessUnits.{gives-output, gives-fed}
use Rattle.dsp_filter.proofs.memoryless.MemorylessUnit.feed.Goals as goal

pub returns-clause-output : goal.returns-clause-output
returns-clause-output g c =
    let u = c.self.inside in
    let block = g.W.FrameWork.block u.work in
    let capacity = rw (← c.self.view_is) at c.requires.capacity in
    rw (← c.self.view_is, g.met.W.FrameWork.as_many u.work u.capacity)
    (gives-output _ (price block u.channels) c.args.frames.now _ c.feed.ensures.given u.capacity capacity)

pub returns-clause-fed : goal.returns-clause-fed
returns-clause-fed g c =
    let u = c.self.inside in
    let block = g.W.FrameWork.block u.work in
    let running = rw (← c.self.view_is) at c.requires.running in
    rw (← c.self.view_is)
    (gives-fed _ (price block u.channels) c.args.frames.now _ c.feed.ensures.given
    (record { running = running; kept = refl; tail = refl; plain = refl })
    (g.met.W.FrameWork.memoryless u.work u.format u.channels) c.args.steps.now c.feed.new.steps
    c.feed.ensures.multiplies c.feed.ensures.turns)
