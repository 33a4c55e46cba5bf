use Rattle.std.proofs.Common.{◌≡◌, ◌*◌, length, map, take, drop}
use Rattle.std.specs.List.{zip}
use Rattle.dsp_defs.specs.Counts.{Rises}
use Rattle.dsp_defs.specs.Kept.{lattice_kept}
use Rattle.dsp_defs.specs.Streaming.{GoesOn}
use Rattle.dsp_lattice.specs.LatticeState.{sections_give}
use Rattle.dsp_lattice.proofs.fir_sections.run_sections.Given as goal

-- the pairs are those that the sections so far give
abbrev pub invariant-loop-m : goal.invariant-loop-m
invariant-loop-m g l = record {
  goes : GoesOn (sections_give (map g.T.Sample.number (take l.m l.coefficients)))
      (lattice_kept (map g.T.Sample.number (take l.m l.coefficients)))
      (map g.T.Sample.number (take l.m l.initial.states)) (map g.T.Sample.number (take l.m l.states))
      (zip (map g.T.Sample.number l.initial.forward) (map g.T.Sample.number l.initial.backward))
      (zip (map g.T.Sample.number l.forward) (map g.T.Sample.number l.backward));
  states : drop l.m l.states ≡ drop l.m l.initial.states;
  steps : Rises l.initial.steps l.steps (l.m * (length l.initial.forward * 2)) (l.m * (length l.initial.forward * 2));
}
