use Rattle.dsp_lanes.proofs.WordViews.{even_words_are}
use Rattle.dsp_lanes.proofs.scales.even_words.Goals as goal

pub returns-clause-words : goal.returns-clause-words
returns-clause-words c = even_words_are c.args.words c.requires.long c.requires.fit
