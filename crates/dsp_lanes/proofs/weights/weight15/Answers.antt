use Rattle.std.proofs.Common.{◌≡◌, ◌∙◌, ap, ap₂, refl, rules, arith, ℤ, ◌+ℤ◌, SFits, to_z, of_z}
use Rattle.std.specs.Int.{w16, w32, w64}
use Rattle.std.proofs.lemmas.Int.{ints, to_z-of_z}
use Rattle.dsp_defs.specs.Numbers.{◌>>◌, saturate}
use Rattle.dsp_sat.proofs.Words.{shift_down-is, shift_down_fits}
use Rattle.dsp_lanes.proofs.weights.weight15.Goals as goal

-- a sum of two small numbers in 64 bits
exact-sum : (a b : ℤ) → SFits w16 a → SFits w32 b → to_z w64
    (of_z w64 (to_z w64 (of_z w64 a) +ℤ to_z w64 (of_z w64 b))) ≡ a +ℤ b
exact-sum a b fits_a fits_b = omega (arith, ints)

pub returns : goal.returns
returns c = λ alpha x is.
    let weight : SFits w16 c.args.weight = c.ranges.weight in
    let product : SFits w32 c.args.product = c.ranges.product in
    let shifted : SFits w32 (c.args.product >> 15) = shift_down_fits w32 c.args.product 32768 product in
    let change : c.from-2.result ≡ c.args.product >> 15 = c.from-2.ensures ∙
    shift_down-is w32 c.args.product c.args.product 15 15 product refl refl in
    let before : c.from.result ≡ c.args.weight = c.from.ensures ∙ to_z-of_z w16 c.args.weight weight in
    let sum : to_z w64 (of_z w64 (to_z w64 (of_z w64 c.from.result) +ℤ to_z w64 (of_z w64 c.from-2.result))) ≡
    c.args.weight +ℤ (c.args.product >> 15) =
    ap₂ (λ a b. to_z w64 (of_z w64 (to_z w64 (of_z w64 a) +ℤ to_z w64 (of_z w64 b)))) before change ∙
    exact-sum c.args.weight (c.args.product >> 15) weight shifted in
    let result : SFits w16 c.sat16.result = search rules in
    to_z-of_z w16 c.sat16.result result ∙ c.sat16.ensures ∙ ap (saturate 16) sum ∙
    ap (λ p. saturate 16 (c.args.weight +ℤ (p >> 15))) is
