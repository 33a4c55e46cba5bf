use Rattle.std.proofs.Common.{◌≡◌, ◌*◌, map, take, All, FitsSigned}
use Rattle.dsp_defs.specs.Counts.{Rises}
use Rattle.dsp_defs.specs.Formats.{word}
use Rattle.dsp_vector.proofs.changes.change_each.Given as goal

-- the samples so far are written
abbrev pub invariant-loop-i : goal.invariant-loop-i
invariant-loop-i g l = record {
  values : take l.i l.out ≡ map (g.O.Change.value l.operation) (take l.i l.samples);
  fits : All (FitsSigned (word g.U.Sample.format)) (take l.i l.out);
  steps : Rises l.fn.steps l.steps (l.i * g.O.Change.price) (l.i * g.O.Change.price);
}
