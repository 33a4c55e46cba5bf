use Rattle.std.proofs.Common.{◌≡◌, ◌+◌, ◌≤◌, map}
use Rattle.std.specs.Prelude.{sum, unsigned_abs}
use Rattle.dsp_lanes.proofs.pair_samples.is_narrow.Given as goal

-- what is left of the taps is left of the sum
abbrev pub invariant-loop-chunk : goal.invariant-loop-chunk
invariant-loop-chunk l = record {
  summed : l.sum + sum (map unsigned_abs l.chunk-iterator.rest.now) ≡ sum (map unsigned_abs l.taps);
  few : l.sum ≤ 65535;
  size : l.chunk-iterator.size ≡ 64;
}
