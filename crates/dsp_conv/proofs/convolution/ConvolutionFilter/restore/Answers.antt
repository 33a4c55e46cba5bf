use Rattle.std.proofs.Common.{◌∙◌, ap}
use Rattle.dsp_conv.specs.ConvState.{ConvState}
use Rattle.dsp_conv.proofs.Inside.{inside}
use Rattle.dsp_conv.proofs.ChannelLemmas.{channel-restored}
use Rattle.dsp_conv.proofs.convolution.ConvolutionFilter.restore.Goals as goal

pub returns : goal.returns
returns g c =
    let here = c.self.inside in
    let is = (inside g.T.Sample.number here.reversed here.zeros c.self.invariant c.self.view_is).is in
    let e = c.restore.ensures in
    channel-restored g.T.Sample.format c.args.self.now c.restore.new.self is (ap (λ (s : ConvState). s.extent) e.same)
    (ap (λ (s : ConvState). s.taps) e.same) (ap (λ (s : ConvState). s.block) e.same) e.count
    c.args.numbers.now (ap (λ (s : ConvState). s.ended) e.same ∙ c.requires.running) e.kept e.stands e.counts
