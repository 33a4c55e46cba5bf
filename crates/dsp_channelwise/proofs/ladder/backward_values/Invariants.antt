use Rattle.std.proofs.Common.{◌≡◌, ◌+◌, ◌*◌, ◌≤◌, ◌++◌, drop}
use Rattle.dsp_defs.specs.Lattice.{backward_values}
use Rattle.dsp_channelwise.proofs.ladder.backward_values.Given as goal

-- with those of the other sections
abbrev pub invariant-loop-m : goal.invariant-loop-m
invariant-loop-m g l = record {
  rest : l.values.items ++ backward_values l.format l.f (drop l.m l.k) (drop (l.m + 1) l.before) ≡ backward_values
      l.format l.fn.f l.k (drop 1 l.before);
  products : l.steps.multiplies ≤ l.initial.steps.multiplies + l.m * 2;
}
