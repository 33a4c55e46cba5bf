use Rattle.dsp_vector.proofs.Numbers.{is-narrow, difference-fits, clamped-difference}
use Rattle.dsp_vector.proofs.clamped.difference.Goals as goal

pub overflow_sub-a : goal.overflow_sub-a
overflow_sub-a g c =
    let less = is-narrow g.T.Sample.format c.WORD_BITS.result g.T.Sample.WORD_BITS c.if-WORD_BITS-lt32.true
    c.WORD_BITS.ensures g.met.T.Sample.has_word_bits in
    difference-fits g.T.Sample.format c.args.a c.args.b less c.ranges.a c.ranges.b c.requires.first
    c.requires.second

pub returns-then-WORD_BITS-lt32-clause-value : goal.returns-then-WORD_BITS-lt32-clause-value
returns-then-WORD_BITS-lt32-clause-value g c =
    let less = is-narrow g.T.Sample.format c.WORD_BITS.result g.T.Sample.WORD_BITS c.if-WORD_BITS-lt32.true
    c.WORD_BITS.ensures g.met.T.Sample.has_word_bits in
    clamped-difference g.T.Sample.format c.args.a c.args.b less c.ranges.a c.ranges.b c.requires.first
    c.requires.second c.clamped.result (record { sfits = c.clamped.type_inv }) c.clamped.ensures.value
