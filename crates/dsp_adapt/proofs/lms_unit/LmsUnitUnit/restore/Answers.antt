use Rattle.std.proofs.Common.{sym, subst, Bool}
use Rattle.dsp_unit.specs.Unit.{Restores}
use Rattle.dsp_adapt.specs.LmsUnit.{unit_of_lms}
use Rattle.dsp_adapt.proofs.LmsUnits.{lms-restores}
use Rattle.dsp_adapt.proofs.lms_unit.LmsUnitUnit.restore.Goals as goal

pub returns : goal.returns
returns g c =
    let format = g.T.Sample.format in
    let u = c.self.inside in
    let rows = c.self.invariant in
    let done = c.restore.ensures in
    let running = rw (← c.self.view_is) at c.requires.running in
    rw (← c.self.view_is)
    (subst (λ (e : Bool). Restores (unit_of_lms format u.lms e) (unit_of_lms format c.restore.new.self e)
    c.args.numbers.now) (sym running)
    (lms-restores format u.lms c.restore.new.self rows.past_long rows.weights_long done.same done.past done.weights
    c.args.numbers.now done.kept done.stands))
