use Rattle.std.proofs.Common.{◌+◌}
use Rattle.dsp_chain.proofs.chain.Chain.window_fault.Goals as goal

pub window_fault-requires : goal.window_fault-requires
window_fault-requires g c =
    rw c.deref.ensures.value (c.self.invariant.is.few_frames (c.self.inside.frames + c.args.more)
    (rw (← c.self.view_is) at c.requires))

pub returns : goal.returns
returns g c = rw (← c.self.view_is, ← c.deref.ensures.value) c.window_fault.ensures
