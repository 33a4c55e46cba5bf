use Rattle.std.proofs.Common.{◌≡◌, refl, ◌∙◌, ap, rules, arith, ◌*ℤ◌, ◌+ℤ◌, pos, SFits, lit<, to_z, of_z}
use Rattle.std.specs.Int.{w32, w64}
use Rattle.std.proofs.lemmas.Int.{ints, to_z-of_z}
use Rattle.dsp_defs.specs.Numbers.{◌>>◌}
use Rattle.dsp_defs.specs.Elementwise.{shift_in}
use Rattle.dsp_sat.proofs.Words.{shift_down-is, product_shift_fits}
use Rattle.dsp_sat.proofs.q31.I32Sample.scale.Goals as goal
use lib.Signed.{shr_z}

pub returns-clause-value : goal.returns-clause-value
returns-clause-value g c =
    let x = c.args.x in
    let factor = c.args.factor in
    let fits_x : SFits w32 x = c.ranges.x in
    let fits_factor : SFits w32 factor = c.ranges.factor in
    let fits_places : SFits w32 c.args.places = c.ranges.places in
    let fits_product : SFits w64 c.product.result = search rules in
    let fits_sum : SFits w32 (c.args.places +ℤ pos 1) = omega (arith, ints) in
    let fits_result : SFits w32 c.saturating_shift.result = search rules in
    let fits_high : SFits w32 (x *ℤ factor >> 32) = product_shift_fits w32 w32 w32 x factor 32 fits_x fits_factor
    (lit< tt) in
    let product : c.product.result ≡ x *ℤ factor = simp to_z-of_z at c.product.ensures.value in
    let high : to_z w64 (of_z w64 (shr_z (to_z w64 (of_z w64 c.product.result)) 4294967296)) ≡ (x *ℤ factor >> 32) =
    shift_down-is w64 c.product.result (x *ℤ factor) 32 32 fits_product product refl in
    let places : to_z w32 (of_z w32 (to_z w32 (of_z w32 c.args.places) +ℤ pos 1)) ≡ c.args.places +ℤ pos 1 =
    simp to_z-of_z in
    to_z-of_z w32 c.saturating_shift.result fits_result
    ∙ c.saturating_shift.ensures
    ∙ ap (λ h. shift_in 32 (to_z w32 (of_z w32 h)) (to_z w32 (of_z w32 (to_z w32 (of_z w32 c.args.places) +ℤ pos 1))))
    high
    ∙ ap (λ h. shift_in 32 h (to_z w32 (of_z w32 (to_z w32 (of_z w32 c.args.places) +ℤ pos 1))))
    (to_z-of_z w32 (x *ℤ factor >> 32) fits_high)
    ∙ ap (shift_in 32 (x *ℤ factor >> 32)) places
