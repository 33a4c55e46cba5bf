use Rattle.dsp_chain.proofs.chain.Chain.tail_frames.Goals as goal

pub tail_frames-requires : goal.tail_frames-requires
tail_frames-requires g c =
    rw c.deref.ensures.value (c.self.invariant.is.few_frames c.self.inside.frames
    (rw (← c.self.view_is) at c.requires))

pub returns : goal.returns
returns g c = rw (← c.self.view_is, ← c.deref.ensures.value) c.tail_frames.ensures
