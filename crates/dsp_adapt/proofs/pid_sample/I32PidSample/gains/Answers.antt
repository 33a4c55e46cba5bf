use Rattle.std.proofs.Common.{◌≡◌, ◌∙◌, ap, rules, arith, pos, ◌*ℤ◌, ◌+ℤ◌, SFits, neg_ℤ}
use Rattle.std.specs.Int.{w32}
use Rattle.std.proofs.lemmas.Int.{ints, to_z-of_z}
use Rattle.dsp_defs.specs.Numbers.{saturate, wrap}
use Rattle.dsp_adapt.proofs.pid_sample.I32PidSample.gains.Goals as goal

pub returns : goal.returns
returns c =
    let kp : SFits w32 c.args.kp = c.ranges.kp in
    let ki : SFits w32 c.args.ki = c.ranges.ki in
    let kd : SFits w32 c.args.kd = c.ranges.kd in
    let sum : SFits w32 c.add.result = search rules in
    let twice : SFits w32 c.add-2.result = search rules in
    let first : SFits w32 c.add-first.result = search rules in
    let third : SFits w32 c.add-3.result = search rules in
    let second : SFits w32 c.wrapped_negative-second.result = search rules in
    let inner : c.add.result ≡ saturate 32 (c.args.kp +ℤ c.args.ki) = c.add.ensures ∙
    ap (saturate 32) (omega (arith, ints)) in
    let doubled : c.add-2.result ≡ saturate 32 (pos 2 *ℤ c.args.kd) = c.add-2.ensures ∙
    ap (saturate 32) (omega (arith, ints)) in
    let a0 = to_z-of_z w32 c.add-first.result first ∙ c.add-first.ensures ∙
    ap (saturate 32) (λ i. (to_z-of_z w32 c.add.result sum ∙ inner) i +ℤ to_z-of_z w32 c.args.kd kd i) in
    let total = to_z-of_z w32 c.add-3.result third ∙ c.add-3.ensures ∙
    ap (saturate 32) (λ i. (to_z-of_z w32 c.add-2.result twice ∙ doubled) i +ℤ to_z-of_z w32 c.args.kp kp i) in
    let a1 = to_z-of_z w32 c.wrapped_negative-second.result second ∙ c.wrapped_negative-second.ensures ∙
    ap (λ v. wrap w32 (neg_ℤ v)) total in
    let a2 = to_z-of_z w32 c.args.kd kd in
    λ i. record { a0 = a0 i; a1 = a1 i; a2 = a2 i }
