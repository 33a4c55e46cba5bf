use Rattle.std.proofs.Common.{◌≡◌, ◌≤◌, ◌*◌, map, take}
use Rattle.std.specs.Prelude.{sum, unsigned_abs}
use Rattle.dsp_lanes.proofs.pair_samples.magnitudes.Given as goal

abbrev pub invariant-loop-tap : goal.invariant-loop-tap
invariant-loop-tap l = (l.sum ≡ sum (map unsigned_abs (take l.tap-index l.taps))) × (l.sum ≤ 32768 * l.tap-index)
