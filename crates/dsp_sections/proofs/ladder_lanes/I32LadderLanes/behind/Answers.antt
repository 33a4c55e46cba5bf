use Rattle.std.proofs.Common.{◌∷◌, take, w32}
use Rattle.dsp_defs.specs.Signal.{sample}
use Rattle.dsp_lanes.proofs.LaneSums.{lanes_read}
use Rattle.dsp_sections.proofs.LadderLanes.{behind_four, behind_fit}
use Rattle.dsp_sections.proofs.ladder_lanes.I32LadderLanes.behind.Goals as goal

pub returns-clause-value : goal.returns-clause-value
returns-clause-value c =
    let front = c.args.front in
    let values = c.args.values in
    (lanes_read w32 _ (sample front 3 ∷ take 3 values) (behind_four w32 front values c.requires.fit_front.1
    c.requires.fit_values.1)
    (behind_fit w32 3 front values c.requires.fit_front c.requires.fit_values).0).0
