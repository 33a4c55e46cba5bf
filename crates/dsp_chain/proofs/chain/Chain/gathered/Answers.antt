use Rattle.dsp_chain.proofs.chain.Chain.gathered.Goals as goal

pub gathered-requires : goal.gathered-requires
gathered-requires g c = rw c.deref.ensures.value (c.self.invariant.is.few_frames c.args.frames c.requires)

pub returns : goal.returns
returns g c = rw (← c.self.view_is, ← c.deref.ensures.value) c.gathered.ensures
