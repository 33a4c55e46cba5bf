use Rattle.std.proofs.Common.{◌≡◌, ◌+◌, ◌*◌, length, map, take, drop, reverse}
use Rattle.dsp_defs.specs.Counts.{Rises}
use Rattle.dsp_defs.specs.Lattice.{lattice_iir}
use Rattle.dsp_defs.specs.Kept.{ladder_kept}
use Rattle.dsp_defs.specs.Streaming.{GoesOn}
use Rattle.dsp_lattice.proofs.iir_work.IirLatticeWorkStepwise.run.Given as goal

-- the samples so far are those that the lattice gives
abbrev pub invariant-loop-sample : goal.invariant-loop-sample
invariant-loop-sample g l = record {
  goes : GoesOn (lattice_iir g.T.Sample.format (map g.T.Sample.number l.reflections) (map g.T.Sample.number l.ladder))
      (ladder_kept g.T.Sample.format (map g.T.Sample.number l.reflections))
      (reverse (drop 1 (map g.T.Sample.number l.initial.backward)))
      (reverse (drop 1 (map g.T.Sample.number l.backward)))
      (map g.T.Sample.number (take l.sample-index l.initial.samples))
      (map g.T.Sample.number (take l.sample-index l.samples));
  rest : drop l.sample-index l.samples ≡ drop l.sample-index l.initial.samples;
  steps : Rises l.initial.steps l.steps (l.sample-index * (3 * length l.reflections + 1))
      (l.sample-index * (3 * length l.reflections + 1));
}
