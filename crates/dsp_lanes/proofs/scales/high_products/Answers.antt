use Rattle.std.proofs.Common.{◌∙◌, w32}
use Rattle.dsp_lanes.proofs.LaneOps.{ints_of_bits}
use Rattle.dsp_lanes.proofs.WordViews.{read_fit, read_long, high_products_are, even_products_fit, odd_products_fit}
use Rattle.dsp_lanes.proofs.scales.high_products.Goals as goal

pub even_words-requires-clause-long : goal.even_words-requires-clause-long
even_words-requires-clause-long c = read_long w32 8 c.args.samples c.requires.long

pub even_words-requires-clause-fit : goal.even_words-requires-clause-fit
even_words-requires-clause-fit c = read_fit w32 c.args.samples c.requires.fit

pub odd_words-requires-clause-long : goal.odd_words-requires-clause-long
odd_words-requires-clause-long c = read_long w32 8 c.args.samples c.requires.long

pub odd_words-requires-clause-fit : goal.odd_words-requires-clause-fit
odd_words-requires-clause-fit c = read_fit w32 c.args.samples c.requires.fit

pub high_words-requires-clause-fit_even : goal.high_words-requires-clause-fit_even
high_words-requires-clause-fit_even c =
    even_products_fit c.args.samples c.even_words-factors.result c.even_words.result c.odd_words.result c.args.factor
    c.requires.long c.requires.fit c.ranges.factor c.even_words-factors.ensures.words c.even_words.ensures.words
    c.odd_words.ensures.words

pub high_words-requires-clause-fit_odd : goal.high_words-requires-clause-fit_odd
high_words-requires-clause-fit_odd c =
    odd_products_fit c.args.samples c.even_words-factors.result c.even_words.result c.odd_words.result c.args.factor
    c.requires.long c.requires.fit c.ranges.factor c.even_words-factors.ensures.words c.even_words.ensures.words
    c.odd_words.ensures.words

pub returns-clause-words : goal.returns-clause-words
returns-clause-words c =
    ints_of_bits w32 c.high_words.result c.high_words.ensures.fit
    ∙ c.high_words.ensures.words
    ∙ high_products_are c.args.samples c.even_words-factors.result c.even_words.result c.odd_words.result c.args.factor
    c.requires.long c.requires.fit c.ranges.factor c.even_words-factors.ensures.words c.even_words.ensures.words
    c.odd_words.ensures.words

pub returns-clause-fit : goal.returns-clause-fit
returns-clause-fit c = read_fit w32 c.high_words.result c.high_words.ensures.fit
