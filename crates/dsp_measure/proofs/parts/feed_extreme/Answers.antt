use Rattle.std.proofs.Common.{◌≡◌, ◌∙◌, ap, ◌/◌, ◌+◌, ◌++◌, length, arith, length-append}
use Rattle.dsp_unit.specs.Channels.{samples_in}
use Rattle.dsp_defs.specs.Kept.{extreme_kept}
use Rattle.dsp_unit.proofs.ChannelFrames.{length-samples_in}
use Rattle.dsp_measure.specs.Extremes.{ExtremeState, extreme, extreme_of, KeepsExtreme}
use Rattle.dsp_measure.proofs.ExtremeLaws.{same-state}
use Rattle.dsp_measure.proofs.parts.feed_extreme.Goals as goal

pub returns-clause-stands : goal.returns-clause-stands
returns-clause-stands g c = λ x stood. (
    let least = g.O.Order.least in
    let frames = c.args.frames.now in
    let count = length frames / c.args.channels in
    let more = samples_in c.args.channels count frames c.args.channel in
    let n = c.requires.kept.0 in
    let keeps : KeepsExtreme g.T.Sample.format n c.args.numbers.now =
    (omega (arith, c.requires.kept.2), c.requires.kept.1) in
    let state : c.restore.new.self ≡ extreme_of least x =
    same-state g.T.Sample.format least c.restore.new.self n x c.args.numbers.now c.requires.kept.1
    (c.restore.ensures.count n keeps) c.restore.ensures.numbers stood in
    c.keep.ensures.numbers
    ∙ ap (λ (s : ExtremeState). extreme_kept s.found s.count) (c.put_channel.ensures.stands x state)
    ∙ ap (λ k. extreme_kept (extreme least (x ++ more)) k)
    (length-append x more ∙ ap (λ k. length x + k) (length-samples_in c.args.channels count frames c.args.channel)))
