use Rattle.std.proofs.Common.{◌∙◌}
use Rattle.dsp_chain.specs.Line.{measure_counts}
use Rattle.dsp_session.proofs.worker.Worker.measures.Goals as goal

pub returns-clause-stays : goal.returns-clause-stays
returns-clause-stays g c =
    let holds = c.self.invariant.holds in
    rw (← c.self.view_is) (c.measures.ensures.stays ∙ (λ i. measure_counts (holds.input i).channels (holds.blocks i)))
