use Rattle.std.proofs.Common.{◌≡◌, ◌≤◌, subst, length, None, arith}
use Rattle.dsp_defs.specs.declared.limits.TheConstants.{MAX_BLOCKS}
use Rattle.std.specs.Prelude.{slice_get}
use Rattle.dsp_unit.specs.Line.{measured_by}
use Rattle.dsp_chain.proofs.Measured.{no-measure}
use Rattle.dsp_chain.proofs.Room.{few-units}
use Rattle.dsp_chain.proofs.chain.Chain.measure.Goals as goal

pub find_measure-requires : goal.find_measure-requires
find_measure-requires g c =
    let few : length c.deref.result.now ≤ MAX_BLOCKS =
    rw c.deref.ensures.value (few-units c.self.inside.links.items c.self.invariant.is.few_blocks) in
    record { few = omega (arith, few) }

pub unreachable-requires : goal.unreachable-requires
unreachable-requires g c =
    no-measure (measured_by 1 c.self.inside.links.items) c.args.index (rw (← c.self.view_is) at c.requires)
    (subst (λ us. None ≡ slice_get (measured_by 1 us) c.args.index) c.deref.ensures.value c.in-None.ensures)
