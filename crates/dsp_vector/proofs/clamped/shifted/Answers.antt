use Rattle.std.proofs.Common.{◌≤ℤ◌, ◌∙◌, arith, pos, SFits, w32, rules, to_z-of_z}
use Rattle.std.proofs.lemmas.Int.{ints}
use Rattle.dsp_vector.proofs.Numbers.{grown}
use Rattle.dsp_vector.proofs.clamped.shifted.Goals as goal

pub returns-then-WORD_BITS-lt32-clause-value : goal.returns-then-WORD_BITS-lt32-clause-value
returns-then-WORD_BITS-lt32-clause-value g c =
    let fits : SFits w32 c.clamped.result = search rules in
    let up : pos 0 ≤ℤ c.args.places = omega (arith, ints, c.if-places-lt0.false) in
    to_z-of_z fits
    ∙ grown g.T.Sample.format c.args.x c.args.places c.clamped.result
    (omega (arith, c.if-WORD_BITS-lt32.true, c.WORD_BITS.ensures, g.met.T.Sample.has_word_bits)) c.ranges.x
    c.requires.in_format c.requires.places up c.clamped.ensures.value
