use Rattle.std.proofs.Common.{◌≡◌, ◌*◌, map, take, drop}
use Rattle.dsp_defs.specs.Counts.{Rises}
use Rattle.dsp_defs.specs.Streaming.{GoesOn}
use Rattle.dsp_filter.proofs.machine.run_machine.Given as goal

-- the samples so far are those that the machine gives
abbrev pub invariant-loop-sample : goal.invariant-loop-sample
invariant-loop-sample g l = record {
  acts : g.M.Machine.acts l.machine ≡ g.M.Machine.acts l.initial.machine;
  goes : GoesOn (g.M.Machine.acts l.initial.machine).gives (g.M.Machine.acts l.initial.machine).keeps
      (g.M.Machine.kept l.initial.machine) (g.M.Machine.kept l.machine)
      (map g.T.Sample.number (take l.sample-index l.initial.samples))
      (map g.T.Sample.number (take l.sample-index l.samples));
  rest : drop l.sample-index l.samples ≡ drop l.sample-index l.initial.samples;
  steps : Rises l.initial.steps l.steps (l.sample-index * g.M.Machine.price) (l.sample-index * g.M.Machine.price);
}
