use Rattle.std.proofs.Common.{◌∙◌, sym, subst, ℤ, pos, negsuc, suc, ◌*◌, ◌≤◌, ◌*ℤ◌, ◌≤ℤ◌, arith, rules, SFits}
use Rattle.std.proofs.Common.{to_z, of_z, to_z-of_z}
use Rattle.std.specs.Int.{w16, w32}
use Rattle.std.proofs.lemmas.Int.{ints}
use Rattle.std.proofs.Math.Nat.{mul-le-mul}
use Rattle.dsp_measure.proofs.squares.square.Goals as goal

-- the square of a number of 16 bits is not negative, and at most 2^30
within : (x : ℤ) → SFits w16 x → (pos 0 ≤ℤ (x *ℤ x)) × ((x *ℤ x) ≤ℤ pos 1073741824)
within (pos n) fits =
    let few : n ≤ 32768 = omega (arith, fits.sfits) in
    let most : n * n ≤ 32768 * 32768 = mul-le-mul few few in
    (omega (arith, ints), omega (arith, ints, most))
within (negsuc n) fits =
    let few : suc n ≤ 32768 = omega (arith, fits.sfits) in
    let most : suc n * suc n ≤ 32768 * 32768 = mul-le-mul few few in
    (omega (arith, ints), omega (arith, ints, most))

pub returns-clause-low : goal.returns-clause-low
returns-clause-low g c =
    let x = to_z w16 (of_z w16 c.of_number-x.result) in
    let taken : SFits w16 x = search rules in
    let made : SFits w32 c.product.result = search rules in
    subst (λ z. pos 0 ≤ℤ z) (sym (to_z-of_z made ∙ c.product.ensures.value)) (within x taken).0

pub returns-clause-high : goal.returns-clause-high
returns-clause-high g c =
    let x = to_z w16 (of_z w16 c.of_number-x.result) in
    let taken : SFits w16 x = search rules in
    let made : SFits w32 c.product.result = search rules in
    subst (λ z. z ≤ℤ pos 1073741824) (sym (to_z-of_z made ∙ c.product.ensures.value)) (within x taken).1
