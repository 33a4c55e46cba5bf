use Rattle.std.proofs.Common.{◌∷◌, take, w16}
use Rattle.dsp_defs.specs.Signal.{sample}
use Rattle.dsp_lanes.proofs.LaneSums.{lanes_read}
use Rattle.dsp_sections.proofs.LadderLanes.{behind_eight, behind_fit}
use Rattle.dsp_sections.proofs.ladder_lanes.I16LadderLanes.behind.Goals as goal

pub returns-clause-value : goal.returns-clause-value
returns-clause-value c =
    let front = c.args.front in
    let values = c.args.values in
    (lanes_read w16 _ (sample front 7 ∷ take 7 values) (behind_eight w16 front values c.requires.fit_front.1
    c.requires.fit_values.1)
    (behind_fit w16 7 front values c.requires.fit_front c.requires.fit_values).0).0
