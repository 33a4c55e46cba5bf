use Rattle.std.proofs.Common.{◌^◌, ◌∙◌, sym, ap, arith, w16, w64}
use Rattle.std.proofs.lemmas.Int.{int_wrap_fits}
use Rattle.std.proofs.lemmas.Simd.{shifts_fit_splat}
use Rattle.std.specs.Int.{int_wrap, saturate_to_bits}
use lib.Signed.{shr_z}
use mir.Val.{SFits}
use Rattle.dsp_lanes.proofs.LaneOps.{bits_of, map-same}
use Rattle.dsp_lanes.proofs.LaneClosings.{shift_saturates, stored}
use Rattle.std.proofs.Common.{refl}
use Rattle.dsp_lanes.proofs.q15.I16LaneKernels.close_group.Goals as goal

pub overflow_shr-out : goal.overflow_shr-out
overflow_shr-out g c = shifts_fit_splat 64 _ g.row.L 15 (omega arith)

pub overflow_cast-out : goal.overflow_cast-out
overflow_cast-out g c = (shift_saturates w64 w16 (omega arith) g.row.L 15 (bits_of w64 c.args.sums) c.args.sums refl
    (omega arith) c.requires.fit).0

pub returns : goal.returns
returns g c =
    stored c.args.at c.args.out.now _ _
    ((shift_saturates w64 w16 (omega arith) g.row.L 15 (bits_of w64 c.args.sums) c.args.sums refl (omega arith)
    c.requires.fit).1
    ∙ map-same (SFits w64) (λ x. saturate_to_bits 15 (shr_z x (2 ^ 15)))
    (λ x. saturate_to_bits 15 (shr_z (int_wrap w64 x) (2 ^ 15)))
    (λ x f. ap (λ z. saturate_to_bits 15 (shr_z z (2 ^ 15))) (sym (int_wrap_fits w64 x f))) c.args.sums
    c.requires.fit)
