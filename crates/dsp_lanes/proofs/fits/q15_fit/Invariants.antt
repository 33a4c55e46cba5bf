use Rattle.std.proofs.Common.{w16, FitsSigned}
use Rattle.std.specs.List.{AllWithin}
use Rattle.dsp_lanes.proofs.fits.q15_fit.Given as goal

abbrev pub invariant-loop-sample : goal.invariant-loop-sample
invariant-loop-sample l = AllWithin (FitsSigned w16) l.samples 0 l.sample-index
