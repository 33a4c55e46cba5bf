use Rattle.std.proofs.Common.{◌∙◌, ap}
use Rattle.dsp_lanes.specs.Regrouped.{list_sum}
use Rattle.dsp_lanes.proofs.plain.PlainDotForm.no_sums.Goals as goal
use Rattle.dsp_lanes.proofs.SumLemmas.{list_sum-zeros}

pub returns-clause-sums : goal.returns-clause-sums
returns-clause-sums g c = ap list_sum c.no_sums.ensures.sums ∙ list_sum-zeros g.row.L
