use Rattle.std.proofs.Common.{length}
use Rattle.dsp_session.specs.Session.{signal}
use Rattle.dsp_session.proofs.streaming.pass_block.Goals as goal

pub feed-fed-requires : goal.feed-fed-requires
feed-fed-requires g c =
    let worker = c.args.worker.now in
    record {
      running = c.requires.runs.running;
      frames = length (signal worker.script worker.coding c.args.bytes.now);
      whole = c.requires.whole;
      few = c.requires.block;
      in_limit = c.requires.count;
    }

pub returns-clause-same : goal.returns-clause-same
returns-clause-same g c = rw c.pass_on.ensures.same c.feed-fed.ensures.same

pub returns-clause-ok : goal.returns-clause-ok
returns-clause-ok g c = c.pass_on.ensures.ok _ _ _ _ c.requires.runs c.feed-fed.ensures

pub returns-clause-err : goal.returns-clause-err
returns-clause-err g c = c.pass_on.ensures.err _ _ _ _ c.requires.runs c.feed-fed.ensures
