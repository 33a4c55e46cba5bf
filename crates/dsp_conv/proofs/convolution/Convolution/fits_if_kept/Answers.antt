use Rattle.dsp_conv.proofs.Inside.{inside}
use Rattle.dsp_conv.proofs.ChannelLemmas.{channel-fits}
use Rattle.dsp_conv.proofs.convolution.Convolution.fits_if_kept.Goals as goal

pub returns : goal.returns
returns g c =
    let here = c.self.inside in
    let is = (inside g.T.Sample.number here.reversed here.zeros c.self.invariant c.self.view_is).is in
    channel-fits g.T.Sample.format c.args.self.now c.args.numbers.now c.requires.0 is.long c.requires.1
