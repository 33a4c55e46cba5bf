use Rattle.std.proofs.Common.{pos, ◌++◌, ◌∙◌}
use Rattle.std.proofs.lemmas.List.{replicate-append-replicate}
use Rattle.dsp_lanes.proofs.doubled.DoubledRowForm.no_sums.Goals as goal

pub returns-clause-sums : goal.returns-clause-sums
returns-clause-sums g c =
    let n = g.F.RowForm.size in
    (λ i. c.no_sums.ensures.sums i ++ c.no_sums-2.ensures.sums i) ∙ replicate-append-replicate n n (pos 0)
