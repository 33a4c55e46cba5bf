use Rattle.std.proofs.Common.{length}
use Rattle.dsp_session.specs.Session.{signal}
use Rattle.dsp_session.proofs.session.Session.feed.Goals as goal

pub feed-requires : goal.feed-requires
feed-requires g c =
    let s = c.args.self.now in
    rw c.self.view_is (record {
      running = c.requires.running;
      frames = length (signal s.script s.coding c.args.bytes.now);
      whole = c.requires.whole;
      few = c.requires.block;
      in_limit = c.requires.count;
    })

pub returns-clause-same : goal.returns-clause-same
returns-clause-same g c = rw (← c.self.view_is) c.feed.ensures.same

pub returns-clause-given : goal.returns-clause-given
returns-clause-given g c = c.feed.ensures.given

pub returns-clause-fed : goal.returns-clause-fed
returns-clause-fed g c = rw (← c.self.view_is) c.feed.ensures.fed

pub returns-clause-full : goal.returns-clause-full
returns-clause-full g c = rw (← c.self.view_is) c.feed.ensures.full

pub returns-clause-numbers : goal.returns-clause-numbers
returns-clause-numbers g c = rw (← c.self.view_is) c.feed.ensures.numbers

pub returns-clause-refused : goal.returns-clause-refused
returns-clause-refused g c = rw (← c.self.view_is) c.feed.ensures.refused

pub returns-clause-within : goal.returns-clause-within
returns-clause-within g c = rw (← c.self.view_is) c.feed.ensures.within
