use Rattle.std.proofs.Common.{◌-◌}
use Rattle.dsp_defs.specs.declared.limits.TheConstants.{MAX_INPUT}
use Rattle.dsp_session.proofs.SkipLaws.{Skipping}
use Rattle.dsp_session.proofs.resuming.skip_samples.Given as goal

abbrev pub invariant-skipping : goal.invariant-skipping
invariant-skipping g l = Skipping l.script l.header l.end l.taken (g.S.Source.state l.fn.input)
    (g.S.Source.state l.input)

abbrev pub decreases-skipping : goal.decreases-skipping
decreases-skipping g l = MAX_INPUT - l.taken
