use Rattle.std.proofs.Common.{◌≡◌, ◌<◌, ◌*◌, ℕ, take, drop}
use Rattle.dsp_defs.specs.Signal.{sample}
use Rattle.dsp_defs.specs.Bytes.{IsValue, sample_of, width}
use Rattle.dsp_wave.proofs.slices.decode_by.Given as goal

-- the samples so far are read
abbrev pub invariant-loop-i : goal.invariant-loop-i
invariant-loop-i l = record {
  read : (k : ℕ) → k < l.i → sample l.samples k ≡ sample_of l.coding
      (take (width l.coding) (drop (k * width l.coding) l.bytes));
  fits : (k : ℕ) → k < l.i → IsValue l.coding (sample l.samples k);
}
