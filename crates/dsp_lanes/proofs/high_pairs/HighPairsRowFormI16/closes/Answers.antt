use Rattle.std.proofs.Common.{length, map}
use Rattle.dsp_defs.specs.declared.format.Fmt.TheVariants.{Q15}
use Rattle.dsp_defs.proofs.FormatLemmas.{close-wrap}
use Rattle.dsp_lanes.specs.Rows.{row}
use Rattle.dsp_lanes.proofs.high_pairs.HighPairsRowFormI16.closes.Goals as goal

pub returns : goal.returns
returns c p = close-wrap Q15 (row (map (λ x. x) c.args._taps.now) (map (λ x. x) c.args._window.now)
    (length c.args._taps.now) p)
