use Rattle.std.proofs.Common.{arith, pos, ◌≡◌, ◌<◌, ◌-ℤ◌, w8, w16, w32}
use Rattle.std.proofs.lemmas.Int.{ints, to_z-of_z}
use Rattle.std.proofs.lemmas.Simd.{shifts_fit_splat}
use Rattle.std.specs.Prelude.{nat_abs, ℤ}
use mir.Val.{SFits, to_z, of_z}
use Rattle.dsp_defs.specs.Elementwise.{IsScaleShift}
use Rattle.dsp_defs.specs.declared.format.Fmt.TheVariants.{Q7}
use Rattle.dsp_lanes.proofs.LaneOps.{group_asked, splat_asked}
use Rattle.dsp_lanes.proofs.LaneClosings.{scale_closes, stored}
use Rattle.dsp_lanes.proofs.q7.I8LaneKernels.scale_group.Goals as goal

pub overflow_cast-x : goal.overflow_cast-x
overflow_cast-x g c = group_asked w8 w16 (omega arith) c.args.at g.row.L c.args.a.now c.q7_fit.ensures c.requires.input

pub overflow_cast-f : goal.overflow_cast-f
overflow_cast-f g c = splat_asked w8 w16 (omega arith) g.row.L c.args.factor c.ranges.factor

amount_is : (s : ℤ) → SFits w32 s → IsScaleShift Q7 s →
    of_z w16 (to_z w32 (of_z w32 (pos 7 -ℤ to_z w32 (of_z w32 s)))) ≡ nat_abs (pos 7 -ℤ s)
amount_is s f r = grind (arith, ints, to_z-of_z)

amount_fits : (s : ℤ) → SFits w32 s → IsScaleShift Q7 s →
    of_z w16 (to_z w32 (of_z w32 (pos 7 -ℤ to_z w32 (of_z w32 s)))) < 16
amount_fits s f r = grind (arith, ints, to_z-of_z)

pub overflow_shr-out : goal.overflow_shr-out
overflow_shr-out g c = shifts_fit_splat 16 _ g.row.L _ (amount_fits c.args.places c.ranges.places c.requires.places)

pub overflow_cast-out : goal.overflow_cast-out
overflow_cast-out g c = (scale_closes w8 w16 (omega arith) (omega arith) c.args.at g.row.L _ _ c.args.a.now
    c.args.factor (amount_is c.args.places c.ranges.places c.requires.places) c.q7_fit.ensures c.ranges.factor
    c.requires.input).0

pub returns : goal.returns
returns g c =
    stored c.args.at c.args.out.now _ _
    (scale_closes w8 w16 (omega arith) (omega arith) c.args.at g.row.L _ _ c.args.a.now c.args.factor
    (amount_is c.args.places c.ranges.places c.requires.places) c.q7_fit.ensures c.ranges.factor c.requires.input).1
