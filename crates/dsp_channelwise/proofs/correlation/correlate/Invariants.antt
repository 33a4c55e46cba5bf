use Rattle.std.proofs.Common.{◌≡◌, ℕ, ◌+◌, ◌-◌, ◌*◌, ◌^◌, ◌<◌, ◌≤◌, ◌*ℤ◌, length}
use Rattle.std.specs.Prelude.{nat_abs}
use Rattle.dsp_defs.specs.Signal.{delayed, sample, sum_below}
use Rattle.dsp_channelwise.proofs.correlation.correlate.Given as goal

-- the products of the first samples stand in the sums
abbrev pub invariant-loop-k : goal.invariant-loop-k
invariant-loop-k g l = record {
  long : length l.sums.items ≡ 2 * l.m - 1;
  value : (n : ℕ) → n < 2 * l.m - 1 → sample l.sums.items n ≡ sum_below l.k
      (λ i. sample l.x i *ℤ delayed l.taps (i + l.m - 1) n);
  small : (n : ℕ) → n < 2 * l.m - 1 → nat_abs (sample l.sums.items n) ≤ l.k * 2 ^ 62;
  products : l.steps.multiplies ≤ l.fn.steps.multiplies + l.k * length l.taps;
}
