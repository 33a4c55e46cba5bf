use Rattle.std.proofs.Common.{◌*◌, map}
use Rattle.dsp_defs.specs.Counts.{Rises}
use Rattle.dsp_sections.specs.Ladders.{SectionsDone}
use Rattle.dsp_lattice.proofs.ladder.ladder_step.Given as goal

-- the values g so far, with those of the sections that are left, are all, and their products are summed
abbrev pub invariant-loop-m : goal.invariant-loop-m
invariant-loop-m g l = record {
  done : SectionsDone g.T.Sample.format (g.T.Sample.number l.fn.x) (map g.T.Sample.number l.reflections)
      (map g.T.Sample.number l.ladder) (map g.T.Sample.number l.fn.backward) (map g.T.Sample.number l.backward) l.m
      (g.T.Sample.number l.f) (g.T.Sample.total l.sum);
  steps : Rises l.fn.steps l.steps (3 * l.m) (3 * l.m);
}
