use Rattle.std.proofs.Common.{◌∙◌, ◌*◌, ap}
use Rattle.dsp_defs.specs.Bytes.{width}
use Rattle.dsp_defs.specs.declared.flow.Flow.{Flow}
use Rattle.dsp_session.proofs.worker.Worker.given_bytes.Goals as goal

pub returns : goal.returns
returns g c =
    let channels = c.from.ensures ∙ ap (λ (flow : Flow). flow.channels) c.output_flow.ensures in
    let size = c.width.ensures ∙ ap width c.self.invariant.output in
    rw (← c.self.view_is) (λ i. channels i * size i)
