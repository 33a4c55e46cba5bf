use Rattle.std.proofs.Common.{◌≡◌, ◌∙◌, ◌-◌, ◌*ℤ◌, ap, arith, to_z-of_z, w32}
use Rattle.dsp_defs.specs.Formats.{word_bits}
use Rattle.dsp_vector.proofs.Numbers.{is-narrow, some_bits, half, half-is, multiplied-is}
use Rattle.dsp_vector.proofs.clamped.multiplied.Goals as goal

pub of_number-requires : goal.of_number-requires
of_number-requires g c =
    let less = is-narrow g.T.Sample.format c.WORD_BITS.result g.T.Sample.WORD_BITS c.if-WORD_BITS-lt32.true
    c.WORD_BITS.ensures g.met.T.Sample.has_word_bits in
    half g.T.Sample.format c.args.a less c.ranges.a c.requires.first

pub of_number-requires-then-WORD_BITS-lt32 : goal.of_number-requires-then-WORD_BITS-lt32
of_number-requires-then-WORD_BITS-lt32 g c =
    let less = is-narrow g.T.Sample.format c.WORD_BITS.result g.T.Sample.WORD_BITS c.if-WORD_BITS-lt32.true
    c.WORD_BITS.ensures g.met.T.Sample.has_word_bits in
    half g.T.Sample.format c.args.b less c.ranges.b c.requires.second

pub overflow_sub-WORD_BITS : goal.overflow_sub-WORD_BITS
overflow_sub-WORD_BITS g c =
    let some = some_bits g.T.Sample.format in
    omega (arith, some, c.WORD_BITS-then-WORD_BITS-lt32.ensures, g.met.T.Sample.has_word_bits)

pub overflow_cast-WORD_BITS : goal.overflow_cast-WORD_BITS
overflow_cast-WORD_BITS g c = record {
  sfits = omega (arith, c.if-WORD_BITS-lt32.true, c.WORD_BITS.ensures, c.WORD_BITS-then-WORD_BITS-lt32.ensures);
}

pub overflow_shr-product : goal.overflow_shr-product
overflow_shr-product g c =
    omega (arith, c.if-WORD_BITS-lt32.true, c.WORD_BITS.ensures, c.WORD_BITS-then-WORD_BITS-lt32.ensures)

pub returns-then-WORD_BITS-lt32-clause-value : goal.returns-then-WORD_BITS-lt32-clause-value
returns-then-WORD_BITS-lt32-clause-value g c =
    let less = is-narrow g.T.Sample.format c.WORD_BITS.result g.T.Sample.WORD_BITS c.if-WORD_BITS-lt32.true
    c.WORD_BITS.ensures g.met.T.Sample.has_word_bits in
    let a_is = half-is c.of_number.result c.args.a (record { sfits = c.of_number.type_inv }) c.ranges.a
    c.of_number.ensures in
    let b_is = half-is c.of_number-then-WORD_BITS-lt32.result c.args.b
    (record { sfits = c.of_number-then-WORD_BITS-lt32.type_inv }) c.ranges.b c.of_number-then-WORD_BITS-lt32.ensures in
    let down : c.WORD_BITS-then-WORD_BITS-lt32.result - 1 ≡ word_bits g.T.Sample.format - 1 =
    ap (λ n. n - 1) (c.WORD_BITS-then-WORD_BITS-lt32.ensures ∙ g.met.T.Sample.has_word_bits) in
    to_z-of_z {w = w32} (record { sfits = c.clamped.type_inv })
    ∙ multiplied-is g.T.Sample.format c.args.a c.args.b c.product-product.result c.clamped.result
    (c.WORD_BITS-then-WORD_BITS-lt32.result - 1) less (record { sfits = c.product-product.type_inv })
    (c.product-product.ensures.value ∙ (λ i. a_is i *ℤ b_is i)) down c.clamped.ensures.value
