use Rattle.std.proofs.Common.{◌≡◌, ◌≤◌, ◌-◌, ◌*◌, length, map, take, drop}
use Rattle.dsp_defs.specs.Counts.{Rises}
use Rattle.dsp_defs.specs.Lattice.{lattice_fir}
use Rattle.dsp_defs.specs.Streaming.{GoesOn}
use Rattle.dsp_lattice.specs.LatticeState.{filter_kept}
use Rattle.dsp_lattice.proofs.fir_work.FirLatticeWorkStepwise.run.Given as goal

-- the samples so far are those that the lattice gives
abbrev pub invariant-loop-start : goal.invariant-loop-start
invariant-loop-start g l = record {
  goes : GoesOn (lattice_fir (map g.T.Sample.number l.coefficients))
      (filter_kept (map g.T.Sample.number l.coefficients)) (map g.T.Sample.number l.initial.states)
      (map g.T.Sample.number l.states)
      (map g.T.Sample.number (take l.start l.initial.samples)) (map g.T.Sample.number (take l.start l.samples));
  rest : drop l.start l.samples ≡ drop l.start l.initial.samples;
  within : l.start ≤ length l.samples;
  steps : Rises l.initial.steps l.steps (length l.coefficients * (l.start * 2)) (length l.coefficients * (l.start * 2));
}

abbrev pub decreases-loop-start : goal.decreases-loop-start
decreases-loop-start g l = length l.samples - l.start
