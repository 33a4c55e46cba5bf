use Rattle.dsp_resume.proofs.StopLaws.{saves}
use Rattle.dsp_resume.proofs.resume.Resume.stop.Goals as goal

pub returns-clause-saved : goal.returns-clause-saved
returns-clause-saved g c =
    saves c.args.self.now c.self.inside.session c.stream_first.new.session c.self.inside.frames c.self.inside.stops
    c.self.inside.state.items
    c.append_numbers.new.state.items c.keep.new.out c.self.view_is c.requires.head c.in_ok-stream_first.ensures.same
    c.keep.ensures c.append_numbers.ensures
