use Rattle.std.proofs.Common.{◌≡◌, ◌∙◌, ap, sym, ◌/◌, ◌+◌, ◌*◌, ◌++◌, length, rules, arith, length-append}
use Rattle.dsp_unit.specs.Channels.{samples_in}
use Rattle.dsp_defs.specs.Signal.{sample}
use Rattle.dsp_unit.proofs.ChannelFrames.{length-samples_in, sample-values}
use Rattle.dsp_measure.specs.Extremes.{ExtremeState, extreme, extreme_of}
use Rattle.dsp_measure.proofs.SumLaws.{one-channel}
use Rattle.dsp_measure.proofs.extreme.Extreme.put_channel.Goals as goal

pub returns-then-channels-eq1-clause-stands : goal.returns-then-channels-eq1-clause-stands
returns-then-channels-eq1-clause-stands g c = λ x stood.
    let frames = c.args.frames.now in
    let one : c.args.channels ≡ 1 = search rules in
    let first : c.args.channel ≡ 0 = omega (arith, one, c.requires.inside) in
    c.put_frames.ensures.stands x stood
    ∙ ap (λ l. extreme_of g.O.Order.least (x ++ l)) (sym (one-channel frames) ∙
    (λ i. samples_in (sym one i) (length frames / sym one i) frames (sym first i)))

pub returns-clause-stands : goal.returns-clause-stands
returns-clause-stands g c = λ x stood. (
    let frames = c.args.frames.now in
    let channels = c.args.channels in
    let count = length frames / channels in
    let more = samples_in channels count frames c.args.channel in
    let old = c.self.view_is ∙ stood in
    let found : c.best_of-self-inside.result ≡ extreme g.O.Order.least (x ++ more) =
    c.best_of-self-inside.ensures.stands x more (ap (λ (s : ExtremeState). s.found) old)
    (ap (λ (s : ExtremeState). s.count) old) (length-samples_in channels count frames c.args.channel)
    (λ n s less is. is ∙ sym (sample-values count (λ k. sample frames (k * channels + c.args.channel)) n less)) in
    let counted : c.self.inside.count + count ≡ length (x ++ more) =
    omega (
      arith,
      ap (λ (s : ExtremeState). s.count) old,
      length-append x more,
      length-samples_in channels count frames c.args.channel,
    ) in
    λ i. record { found = found i; count = counted i })
