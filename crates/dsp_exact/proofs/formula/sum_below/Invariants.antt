use Rattle.std.proofs.Common.{◌≡◌, ◌+◌, ◌*◌, ◌^◌, ◌≤◌}
use Rattle.std.specs.Prelude.{nat_abs}
use Rattle.dsp_defs.specs.Signal.{sum_below}
use Rattle.dsp_exact.proofs.formula.sum_below.Given as goal

-- the terms so far are summed
abbrev pub invariant-loop-k : goal.invariant-loop-k
invariant-loop-k g l = record {
  value : l.sum ≡ sum_below l.k (g.T.Terms.term l.terms);
  small : nat_abs l.sum ≤ l.k * 2 ^ 62;
  products : l.steps.multiplies ≤ l.initial.steps.multiplies + l.k;
}
