use Rattle.std.proofs.Common.{w8, FitsSigned}
use Rattle.std.specs.List.{AllWithin}
use Rattle.dsp_lanes.proofs.fits.q7_fit.Given as goal

abbrev pub invariant-loop-sample : goal.invariant-loop-sample
invariant-loop-sample l = AllWithin (FitsSigned w8) l.samples 0 l.sample-index
