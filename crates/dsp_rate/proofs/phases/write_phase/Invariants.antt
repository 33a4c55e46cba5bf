use Rattle.std.proofs.Common.{◌≡◌, ◌≢◌, ◌<◌, ◌*◌, ◌+◌, ◌%◌, ℕ, map}
use Rattle.dsp_defs.specs.Signal.{sample}
use Rattle.dsp_rate.proofs.phases.write_phase.Given as goal

-- the first values of the phase are written, and no place of another one
abbrev pub invariant-loop-i : goal.invariant-loop-i
invariant-loop-i g l = record {
  written : (k : ℕ) → k < l.i → sample (map g.T.Sample.number l.out) (k * l.factor + l.phase) ≡ sample
      (map g.T.Sample.number l.row) k;
  others : (k : ℕ) → k % l.factor ≢ l.phase → sample (map g.T.Sample.number l.out) k ≡ sample
      (map g.T.Sample.number l.fn.out) k;
}
