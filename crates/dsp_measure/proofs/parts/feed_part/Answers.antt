use Rattle.dsp_measure.proofs.MeasureParts.{power-part, dot-part, complex-part, max-part, min-part}
use Rattle.dsp_measure.proofs.parts.feed_part.Goals as goal

pub returns-in-Power-clause-fed : goal.returns-in-Power-clause-fed
returns-in-Power-clause-fed g c =
    rw c.in-Power.is (power-part g.T.Sample.format c.args.channels c.args.frames.now c.args.part c.args.numbers.now
    c.feed_sum.new.numbers (rw c.in-Power.is at c.requires.part) c.feed_sum.ensures.sum c.feed_sum.ensures.kept)

pub returns-in-Dot-clause-fed : goal.returns-in-Dot-clause-fed
returns-in-Dot-clause-fed g c =
    rw c.in-Dot.is (dot-part g.T.Sample.format c.args.channels c.args.frames.now c.args.part c.args.numbers.now
    c.feed_sum-in-Dot.new.numbers (rw c.in-Dot.is at c.requires.channels) c.feed_sum-in-Dot.ensures.sum
    c.feed_sum-in-Dot.ensures.kept)

pub returns-in-CmplxDot-clause-fed : goal.returns-in-CmplxDot-clause-fed
returns-in-CmplxDot-clause-fed g c =
    rw c.in-CmplxDot.is (complex-part g.T.Sample.format c.args.channels c.args.frames.now c.args.part
    c.args.numbers.now c.feed_complex.new.numbers (rw c.in-CmplxDot.is at c.requires.channels)
    c.feed_complex.ensures.re c.feed_complex.ensures.im c.feed_complex.ensures.kept)

pub returns-in-Max-clause-fed : goal.returns-in-Max-clause-fed
returns-in-Max-clause-fed g c =
    rw c.in-Max.is (max-part g.T.Sample.format c.args.channels c.args.frames.now c.args.part c.args.numbers.now
    c.feed_extreme.new.numbers (rw c.in-Max.is at c.requires.part) c.feed_extreme.ensures.stands
    c.feed_extreme.ensures.kept)

pub returns-in-Min-clause-fed : goal.returns-in-Min-clause-fed
returns-in-Min-clause-fed g c =
    rw c.in-Min.is (min-part g.T.Sample.format c.args.channels c.args.frames.now c.args.part c.args.numbers.now
    c.feed_extreme-in-Min.new.numbers (rw c.in-Min.is at c.requires.part) c.feed_extreme-in-Min.ensures.stands
    c.feed_extreme-in-Min.ensures.kept)
