use Rattle.std.proofs.Common.{◌≡◌, ◌∙◌, ap, sym, subst, ℤ, negsuc, ◌≤ℤ◌, ◌*ℤ◌, SFits, lit<, to_z, of_z}
use Rattle.std.specs.Int.{w32, w64}
use Rattle.std.proofs.lemmas.Int.{to_z-of_z, unsigned_abs-mul}
use Rattle.std.proofs.Math.Nat.{mul-le-mul}
use Rattle.dsp_defs.specs.Numbers.{◌>>◌}
use Rattle.dsp_sat.proofs.Words.{abs_within, high_low, product_shift-is, product_shift_fits}
use Rattle.dsp_sat.proofs.q31.high_word.Goals as goal
use lib.Signed.{shr_z}

high_fits : (a b : ℤ) → SFits w32 a → SFits w32 b → SFits w32 (a *ℤ b >> 32)
high_fits a b fits_a fits_b = product_shift_fits w32 w32 w32 a b 32 fits_a fits_b (lit< tt)

pub overflow_cast-result : goal.overflow_cast-result
overflow_cast-result g c =
    subst (SFits w32)
    (sym (product_shift-is w64 w32 c.args.a c.args.b c.product.result 32 c.ranges.a c.ranges.b
    (record { sfits = c.product.type_inv }) c.product.ensures.value))
    (high_fits c.args.a c.args.b c.ranges.a c.ranges.b)

high :
    (a b p : ℤ) → SFits w32 a → SFits w32 b → SFits w64 p → p ≡ to_z w32 (of_z w32 a) *ℤ to_z w32 (of_z w32 b) →
    to_z w32 (of_z w32 (to_z w64 (of_z w64 (shr_z (to_z w64 (of_z w64 p)) 4294967296)))) ≡ (a *ℤ b >> 32)
high a b p fits_a fits_b fits_p is =
    ap (λ z. to_z w32 (of_z w32 z)) (product_shift-is w64 w32 a b p 32 fits_a fits_b fits_p is) ∙
    to_z-of_z w32 (a *ℤ b >> 32) (high_fits a b fits_a fits_b)

pub returns-clause-value : goal.returns-clause-value
returns-clause-value g c = high c.args.a c.args.b c.product.result c.ranges.a c.ranges.b
    (record { sfits = c.product.type_inv }) c.product.ensures.value

pub returns-clause-low : goal.returns-clause-low
returns-clause-low g c =
    let a = c.args.a in
    let b = c.args.b in
    subst (λ z. negsuc 1073741823 ≤ℤ z)
    (sym (high a b c.product.result c.ranges.a c.ranges.b (record { sfits = c.product.type_inv })
    c.product.ensures.value))
    (high_low (a *ℤ b) (rw unsigned_abs-mul (mul-le-mul (abs_within w32 a c.ranges.a) (abs_within w32 b c.ranges.b))))

pub returns-clause-steps : goal.returns-clause-steps
returns-clause-steps g c = c.product.ensures.steps
