use Rattle.std.proofs.Common.{◌-◌}
use Rattle.dsp_defs.specs.declared.limits.TheConstants.{MAX_INPUT}
use Rattle.dsp_wave.proofs.FirstFormat.{GoesOn}
use Rattle.dsp_wave.proofs.reader.first_format.Given as goal

abbrev pub invariant-chunks : goal.invariant-chunks
invariant-chunks g l = record { read : GoesOn (g.S.Source.state l.fn.source) (g.S.Source.state l.source) l.offset }

abbrev pub decreases-chunks : goal.decreases-chunks
decreases-chunks g l = MAX_INPUT - l.offset
