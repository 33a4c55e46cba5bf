use Rattle.std.proofs.Common.{◌∙◌, ap, rules, ◌*ℤ◌}
use Rattle.std.specs.Int.{w64}
use Rattle.std.proofs.lemmas.Int.{wrapping_mul_is}
use Rattle.dsp_defs.specs.Numbers.{wrap}
use Rattle.dsp_biquad.proofs.closing.fed_back.Goals as goal

pub returns : goal.returns
returns c = wrapping_mul_is w64 c.args.sum c.power.result c.ranges.sum (search rules) ∙
    ap (λ v. wrap w64 (c.args.sum *ℤ v)) c.power.ensures
