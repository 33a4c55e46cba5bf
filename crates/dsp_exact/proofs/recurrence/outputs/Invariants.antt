use Rattle.std.proofs.Common.{◌≡◌, ◌+◌, ◌*◌, ◌≤◌, take}
use Rattle.std.specs.Prelude.{All}
use Rattle.dsp_defs.specs.Signal.{outputs}
use Rattle.dsp_exact.proofs.recurrence.outputs.Given as goal

-- the values so far
abbrev pub invariant-loop-n : goal.invariant-loop-n
invariant-loop-n g l = record {
  values : l.y.items ≡ outputs (g.R.Recurrence.next l.recurrence) (take l.n l.x);
  fits : All (g.R.Recurrence.IsValue l.recurrence) l.y.items;
  products : l.steps.multiplies ≤ l.initial.steps.multiplies + l.n * g.R.Recurrence.cost l.recurrence;
}
