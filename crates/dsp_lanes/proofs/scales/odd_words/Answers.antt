use Rattle.dsp_lanes.proofs.WordViews.{odd_words_are}
use Rattle.dsp_lanes.proofs.scales.odd_words.Goals as goal

pub returns-clause-words : goal.returns-clause-words
returns-clause-words c = odd_words_are c.args.words c.requires.long c.requires.fit
