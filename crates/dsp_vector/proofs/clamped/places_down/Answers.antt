use Rattle.std.proofs.Common.{◌∙◌}
use Rattle.dsp_vector.proofs.Numbers.{difference_down}
use Rattle.dsp_vector.proofs.clamped.places_down.Goals as goal

pub returns-clause-value : goal.returns-clause-value
returns-clause-value g c =
    (difference_down g.T.Sample.format c.WORD_BITS.result c.unsigned_abs.result c.args.places c.requires.narrow
    (c.WORD_BITS.ensures ∙ g.met.T.Sample.has_word_bits) c.ranges.places c.requires.places
    c.unsigned_abs.ensures.value).0

pub returns-clause-few : goal.returns-clause-few
returns-clause-few g c =
    (difference_down g.T.Sample.format c.WORD_BITS.result c.unsigned_abs.result c.args.places c.requires.narrow
    (c.WORD_BITS.ensures ∙ g.met.T.Sample.has_word_bits) c.ranges.places c.requires.places
    c.unsigned_abs.ensures.value).1
