-- Parameters of recursions, as the definitions have them.
use Rattle.std.specs.Prelude.{ℤ, List}
use Rattle.dsp_defs.specs.Signal.{sample}
use Rattle.dsp_defs.specs.Biquad as biquad
use Rattle.dsp_defs.specs.Adaptive as adaptive
use Rattle.dsp_channelwise.specs.declared.cascade.Section.{Section}

abbrev pub section_of : Section → biquad.Section
section_of c =
    record { b0 = sample c.0 0; b1 = sample c.0 1; b2 = sample c.0 2; a1 = sample c.1 0; a2 = sample c.1 1 }

abbrev pub gains_of : List ℤ → adaptive.Gains
gains_of g = record { a0 = sample g 0; a1 = sample g 1; a2 = sample g 2 }
