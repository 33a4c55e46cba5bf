use Rattle.std.proofs.Common.{◌-◌}
use Rattle.dsp_defs.specs.declared.limits.TheConstants.{MAX_INPUT}
use Rattle.dsp_session.specs.Advancing.{Going}
use Rattle.dsp_session.proofs.streaming.pass_blocks.Given as goal

abbrev pub invariant-passing : goal.invariant-passing
invariant-passing g l =
    Going l.fn.worker l.worker l.header l.span l.taken (g.S.Source.state l.fn.input) (g.S.Source.state l.input)
    (g.K.Sink.state l.fn.output) (g.K.Sink.state l.output) l.fn.steps l.steps

abbrev pub decreases-passing : goal.decreases-passing
decreases-passing g l = MAX_INPUT - l.taken
