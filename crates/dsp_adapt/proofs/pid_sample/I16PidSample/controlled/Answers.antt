use Rattle.std.proofs.Common.{◌≡◌, ◌∙◌, ap, refl, rules, arith, ℤ, ◌*◌, ◌%◌, ◌^◌, ◌*ℤ◌, ◌+ℤ◌, pos, sym, subst, SFits}
use Rattle.std.proofs.Common.{to_z, of_z}
use Rattle.std.specs.Int.{w16, w64}
use Rattle.std.proofs.lemmas.Int.{ints, to_z-of_z, int_wrap_fits, wrapping_mul_is}
use Rattle.dsp_defs.specs.Numbers.{saturate}
use Rattle.dsp_sat.proofs.Words.{shift_down-is}
use Rattle.dsp_adapt.proofs.pid_sample.I16PidSample.controlled.Goals as goal

-- a sample that is shifted up by 15 places
raised : (x : ℤ) → SFits w64 x → SFits w64 (x *ℤ pos 32768) → to_z w64 (of_z w64 x * 32768 % 2 ^ 64) ≡ x *ℤ pos 32768
raised x fits room = wrapping_mul_is w64 x (pos 32768) fits (search rules) ∙ int_wrap_fits w64 (x *ℤ pos 32768) room

pub returns : goal.returns
returns c =
    let before : SFits w16 c.args.before = c.ranges.before in
    let sum = c.exact_sum-sum.result in
    let up = c.from.result in
    let is_up : to_z w64 (of_z w64 up * 32768 % 2 ^ 64) ≡ up *ℤ pos 32768 =
    raised up (omega (arith, ints)) (omega (arith, ints)) in
    let value : ℤ = c.args.newest +ℤ c.args.second +ℤ c.args.third +ℤ c.args.before *ℤ pos 32768 in
    let whole : ℤ = to_z w64 (of_z w64 sum) +ℤ up *ℤ pos 32768 in
    let same : to_z w64 (of_z w64 sum) +ℤ to_z w64 (of_z w64 up * 32768 % 2 ^ 64) ≡ whole =
    ap (λ z. to_z w64 (of_z w64 sum) +ℤ z) is_up in
    let fits : SFits w64 whole = omega (arith, ints) in
    let is : whole ≡ value = omega (arith, ints) in
    let result : SFits w16 c.sat16.result = search rules in
    to_z-of_z w16 c.sat16.result result ∙ c.sat16.ensures
    ∙ ap (saturate 16) (shift_down-is w64 _ value 15 15 (subst (SFits w64) (sym same) fits) (same ∙ is) refl)
