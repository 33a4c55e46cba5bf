use Rattle.std.proofs.Common.{◌∙◌, ap, ◌+◌}
use Rattle.dsp_defs.specs.Shape.{window_at}
use Rattle.dsp_session.proofs.worker.Worker.window_fault.Goals as goal

pub returns : goal.returns
returns g c =
    rw (← c.self.view_is) (c.window_fault.ensures ∙ ap (λ blocks. window_at blocks
    (c.self.inside.chain.frames + c.args.more)) c.self.invariant.holds.blocks)
