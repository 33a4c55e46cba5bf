use Rattle.std.proofs.Common.{◌-◌}
use Rattle.dsp_defs.specs.declared.limits.TheConstants.{MAX_INPUT}
use Rattle.dsp_au.proofs.ConvertLaws.{Going}
use Rattle.dsp_au.proofs.conversion.pass_samples.Given as goal

abbrev pub invariant-passing : goal.invariant-passing
invariant-passing g l = Going l.direction l.header l.taken (g.S.Source.state l.fn.input) (g.S.Source.state l.input)
    (g.K.Sink.state l.fn.output) (g.K.Sink.state l.output)

abbrev pub decreases-passing : goal.decreases-passing
decreases-passing g l = MAX_INPUT - l.taken
