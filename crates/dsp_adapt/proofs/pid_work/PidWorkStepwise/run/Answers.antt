use Rattle.std.proofs.Common.{map, [], ◌∷◌, subst}
use Rattle.dsp_defs.specs.Streaming.{Behaviour, GoesOn}
use Rattle.dsp_adapt.proofs.pid_work.PidWorkStepwise.run.Goals as goal

pub returns-clause-goes : goal.returns-clause-goes
returns-clause-goes g c =
    let number = g.T.Sample.number in
    let old = c.self.inside.machine in
    let new = c.run_machine.new.machine in
    rw (← c.self.view_is)
    (subst (λ (b : Behaviour). GoesOn b.gives b.keeps (number old.x1 ∷ number old.x2 ∷ number old.y1 ∷ [])
    (number new.x1 ∷ number new.x2 ∷ number new.y1 ∷ []) (map number c.args.samples.now)
    (map number c.run_machine.new.samples))
    c.self.invariant c.run_machine.ensures.goes)
