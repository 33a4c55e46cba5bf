use Rattle.std.proofs.Common.{◌∙◌, ap, ◌<◌, ◌-◌, ◌-ℤ◌, pos, nat_abs, arith, SFits, w32, rules, to_z-of_z}
use Rattle.dsp_defs.specs.Formats.{word_bits}
use Rattle.dsp_vector.proofs.Numbers.{scaled-is}
use Rattle.dsp_vector.proofs.clamped.scaled.Goals as goal

pub returns-then-WORD_BITS-lt32-clause-value : goal.returns-then-WORD_BITS-lt32-clause-value
returns-then-WORD_BITS-lt32-clause-value g c =
    let narrow : word_bits g.T.Sample.format < 32 = omega
    (arith, c.if-WORD_BITS-lt32.true, c.WORD_BITS.ensures, g.met.T.Sample.has_word_bits) in
    let fits : SFits w32 c.clamped.result = search rules in
    to_z-of_z fits
    ∙ scaled-is g.T.Sample.format c.args.x c.args.fract c.args.places c.narrow_product-product.result c.clamped.result
    c.places_down.result narrow c.ranges.x c.ranges.fract (record { sfits = c.narrow_product-product.type_inv })
    c.narrow_product-product.ensures.value
    (c.places_down.ensures.value ∙ ap (λ z. nat_abs (pos (word_bits g.T.Sample.format - 1) -ℤ z))
    (to_z-of_z c.ranges.places))
    c.clamped.ensures.value
