use Rattle.std.proofs.Common.{◌∙◌, ap, rules, arith, SFits}
use Rattle.std.specs.Int.{w16}
use Rattle.std.proofs.lemmas.Int.{ints, to_z-of_z}
use Rattle.dsp_defs.specs.Numbers.{saturate}
use Rattle.dsp_adapt.proofs.pid_sample.I16PidSample.gains.Goals as goal

pub returns : goal.returns
returns c =
    let kp : SFits w16 c.args.kp = c.ranges.kp in
    let ki : SFits w16 c.args.ki = c.ranges.ki in
    let kd : SFits w16 c.args.kd = c.ranges.kd in
    let first : SFits w16 c.sat16.result = search rules in
    let second : SFits w16 c.sat16-2.result = search rules in
    let a0 = to_z-of_z w16 c.sat16.result first ∙ c.sat16.ensures ∙ ap (saturate 16) (omega (arith, ints)) in
    let a1 = to_z-of_z w16 c.sat16-2.result second ∙ c.sat16-2.ensures ∙ ap (saturate 16) (omega (arith, ints)) in
    let a2 = to_z-of_z w16 c.args.kd kd in
    λ i. record { a0 = a0 i; a1 = a1 i; a2 = a2 i }
