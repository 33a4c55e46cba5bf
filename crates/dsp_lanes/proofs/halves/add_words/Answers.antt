use Rattle.std.proofs.Common.{◌+ℤ◌, ◌*ℤ◌, w64}
use Rattle.dsp_lanes.proofs.HalfProducts.{factor_words_are}
use Rattle.dsp_lanes.proofs.HalfSums.{half_fits}
use Rattle.dsp_lanes.proofs.halves.add_words.Goals as goal

pub returns-clause-evens : goal.returns-clause-evens
returns-clause-evens c =
    let sums = c.requires.fit_sums in
    let fit = c.requires.fit in
    factor_words_are c.args.sums.even c.args.even c.even_words-factors.result c.args.factor fit.2 sums.0
    c.ranges.factor fit.0 c.even_words-factors.ensures.words

pub returns-clause-odds : goal.returns-clause-odds
returns-clause-odds c =
    let sums = c.requires.fit_sums in
    let fit = c.requires.fit in
    factor_words_are c.args.sums.odd c.args.odd c.even_words-factors.result c.args.factor fit.3 sums.1
    c.ranges.factor fit.1 c.even_words-factors.ensures.words

pub returns-clause-fit : goal.returns-clause-fit
returns-clause-fit c =
    let sums = c.requires.fit_sums in
    let fit = c.requires.fit in
    let evens = half_fits w64 4 (λ s x. s +ℤ (c.args.factor *ℤ x)) _ c.args.sums.even c.args.even
    (returns-clause-evens c) sums.2 fit.2 in
    let odds = half_fits w64 4 (λ s x. s +ℤ (c.args.factor *ℤ x)) _ c.args.sums.odd c.args.odd
    (returns-clause-odds c) sums.3 fit.3 in
    (evens.0, odds.0, evens.1, odds.1)
