use Rattle.dsp_lanes.proofs.WeightLanes.{high_words_are}
use Rattle.dsp_lanes.proofs.weights.high_words.Goals as goal

pub overflow_cast-result : goal.overflow_cast-result
overflow_cast-result c = (high_words_are c.args.factor c.args.samples c.requires.long c.ranges.factor c.requires.fit).0

pub overflow_cast-result-2 : goal.overflow_cast-result-2
overflow_cast-result-2 c = (high_words_are c.args.factor c.args.samples c.requires.long c.ranges.factor
    c.requires.fit).1

pub returns-clause-words : goal.returns-clause-words
returns-clause-words c = (high_words_are c.args.factor c.args.samples c.requires.long c.ranges.factor c.requires.fit).2

pub returns-clause-fit : goal.returns-clause-fit
returns-clause-fit c = (high_words_are c.args.factor c.args.samples c.requires.long c.ranges.factor c.requires.fit).3
