use Rattle.dsp_session.proofs.EndLaws.{TailSoFar}
use Rattle.dsp_session.proofs.closing.write_tail.Given as goal

abbrev pub invariant-loop : goal.invariant-loop
invariant-loop g l = TailSoFar l.fn.worker l.worker l.frames l.counter (g.K.Sink.state l.fn.output)
    (g.K.Sink.state l.output) l.fn.steps l.steps
