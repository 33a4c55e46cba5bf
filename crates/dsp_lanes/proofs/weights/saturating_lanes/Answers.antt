use Rattle.std.proofs.Common.{sym, subst, List, ℤ, w32}
use lib.Lanes.{Each1}
use Rattle.dsp_lanes.proofs.WeightLanes.{saturated_are, saturated_fit}
use mir.Val.{SFits}
use Rattle.dsp_lanes.proofs.weights.saturating_lanes.Goals as goal

pub returns-clause-sums : goal.returns-clause-sums
returns-clause-sums g c =
    saturated_are g.row.N c.args.values c.args.changes c.requires.long c.requires.values c.requires.changes

pub returns-clause-fit : goal.returns-clause-fit
returns-clause-fit g c =
    subst (λ (l : List ℤ). Each1 (SFits w32) l) (sym (saturated_are g.row.N c.args.values c.args.changes c.requires.long
    c.requires.values c.requires.changes))
    (saturated_fit c.args.values c.args.changes)
