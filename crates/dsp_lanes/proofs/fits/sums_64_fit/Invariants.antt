use Rattle.std.proofs.Common.{w64, FitsSigned}
use Rattle.std.specs.List.{AllWithin}
use Rattle.dsp_lanes.proofs.fits.sums_64_fit.Given as goal

abbrev pub invariant-loop-sum : goal.invariant-loop-sum
invariant-loop-sum l = AllWithin (FitsSigned w64) l.sums 0 l.sum-index
