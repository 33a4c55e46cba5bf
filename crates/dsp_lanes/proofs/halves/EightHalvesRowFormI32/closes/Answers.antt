use Rattle.dsp_defs.specs.declared.format.Fmt.TheVariants.{Q31}
use Rattle.dsp_defs.proofs.FormatLemmas.{close-wrap}
use Rattle.dsp_lanes.proofs.halves.EightHalvesRowFormI32.closes.Goals as goal

pub returns : goal.returns
returns c p = close-wrap Q31 _
