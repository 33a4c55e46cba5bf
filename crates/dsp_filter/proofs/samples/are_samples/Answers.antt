use Rattle.dsp_defs.specs.Formats.{word}
use Rattle.dsp_defs.specs.Kept.{IsOfKind}
use Rattle.dsp_unit.proofs.ChannelKept.{length-words, words-fit, fit-words}
use Rattle.dsp_filter.proofs.samples.are_samples.Goals as goal

pub returns : goal.returns
returns g c =
    let width = word g.T.Sample.format in
    let count = c.args.count in
    let numbers = c.args.numbers.now in (
      λ yes. let fits = c.are_words.ensures.0 yes in words-fit width count numbers fits.0 fits.1,
      λ each. c.are_words.ensures.1 (
        length-words IsOfKind width count numbers each,
        fit-words width count numbers each,
      ),
    )
