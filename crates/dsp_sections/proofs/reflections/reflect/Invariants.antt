use Rattle.std.proofs.Common.{length, ◌-◌, ◌*◌, map, to_z, w16}
use Rattle.dsp_defs.specs.Counts.{Rises}
use Rattle.dsp_defs.specs.Signal.{sample}
use Rattle.dsp_sections.proofs.LadderLanes.{AreIn}
use Rattle.dsp_sections.proofs.ReflectedGroups.{Reached}
use Rattle.dsp_sections.proofs.reflections.reflect.Given as goal

abbrev pub invariant-groups : goal.invariant-groups
invariant-groups g l = let lanes = map (to_z w16) l.lanes in
    Reached l.fn.k l.fn.before l.fn.forward l.fn.backward l.forward l.backward (sample lanes 7) l.at ×
    (Rises l.fn.steps l.steps (l.at * 2) (l.at * 2) × AreIn w16 8 lanes)

abbrev pub decreases-groups : goal.decreases-groups
decreases-groups g l = length l.forward - l.at

abbrev pub invariant-rest : goal.invariant-rest
invariant-rest g l = Reached l.fn.k l.fn.before l.fn.forward l.fn.backward l.forward l.backward l.last l.at ×
    Rises l.fn.steps l.steps (l.at * 2) (l.at * 2)

abbrev pub decreases-rest : goal.decreases-rest
decreases-rest g l = length l.forward - l.at
