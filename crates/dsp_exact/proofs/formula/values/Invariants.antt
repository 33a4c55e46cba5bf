use Rattle.std.proofs.Common.{◌≡◌, ◌+◌, ◌*◌, ◌≤◌}
use Rattle.std.specs.Prelude.{All, FitsSigned}
use Rattle.dsp_defs.specs.Formats.{word}
use Rattle.dsp_defs.specs.Signal.{values}
use Rattle.dsp_exact.proofs.formula.values.Given as goal

-- the samples so far
abbrev pub invariant-loop-n : goal.invariant-loop-n
invariant-loop-n g l = record {
  values : l.y.items ≡ values l.n (g.F.Formula.at l.formula);
  fits : All (FitsSigned (word (g.F.Formula.format l.formula))) l.y.items;
  products : l.steps.multiplies ≤ l.initial.steps.multiplies + l.n * g.F.Formula.cost l.formula;
}
