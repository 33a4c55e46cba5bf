use Rattle.dsp_lanes.proofs.q15.I16FilterKernels.are_small.Goals as goal

pub returns : goal.returns
returns g c = c.is_narrow.ensures
