use Rattle.std.proofs.Common.{◌∙◌, ap, pos, ◌+◌, ◌^◌, lit<}
use Rattle.std.specs.Int.{w64, w128}
use Rattle.std.proofs.lemmas.Int.{to_z-of_z}
use Rattle.dsp_defs.specs.Numbers.{wrap}
use Rattle.dsp_sat.proofs.Words.{widened, wide_fits, wide-is}
use Rattle.dsp_channelwise.proofs.FewTerms.{power-fits}
use Rattle.dsp_channelwise.proofs.cascade.fed_back.Goals as goal

pub overflow_mul-from : goal.overflow_mul-from
overflow_mul-from c =
    let p = c.args.post_shift in
    let acc = widened w128 w64 c.from.result c.args.acc c.ranges.acc (record { sfits = c.from.type_inv })
    c.from.ensures in
    let power = to_z-of_z w128 c.pow.result (record { sfits = c.pow.type_inv }) ∙ c.pow.ensures
    ∙ ap (λ k. pos (2 ^ (k + 1))) c.from-2.ensures in
    wide_fits w128 w64 w64 c.from.result c.pow.result c.args.acc (pos (2 ^ (p + 1))) acc power c.ranges.acc
    (power-fits p c.requires) (lit< tt)

pub returns : goal.returns
returns c =
    let p = c.args.post_shift in
    let acc = widened w128 w64 c.from.result c.args.acc c.ranges.acc (record { sfits = c.from.type_inv })
    c.from.ensures in
    let power = to_z-of_z w128 c.pow.result (record { sfits = c.pow.type_inv }) ∙ c.pow.ensures
    ∙ ap (λ k. pos (2 ^ (k + 1))) c.from-2.ensures in
    to_z-of_z w64 c.wrap64.result (record { sfits = c.wrap64.type_inv })
    ∙ c.wrap64.ensures
    ∙ ap (wrap w64) (wide-is w128 w64 w64 c.from.result c.pow.result c.args.acc (pos (2 ^ (p + 1))) acc power
    c.ranges.acc (power-fits p c.requires) (lit< tt))
