use Rattle.std.proofs.Common.{◌≡◌, subst, length, vec_len, rules}
use Rattle.dsp_rate.proofs.ChannelLemmas.{IsDecimator, is-decimator, channel-fits}
use Rattle.dsp_rate.proofs.decimate.Decimate.fits_if_kept.Goals as goal

pub returns : goal.returns
returns g c =
    let here = c.self.inside in
    let counted : vec_len here.taps ≡ length here.taps.items = search rules in
    let is = subst IsDecimator c.self.view_is (is-decimator g.T.Sample.number here.taps.items _ _ _ here.window _
    counted c.self.invariant.0 c.self.invariant.3 c.self.invariant.4 c.self.invariant.6) in
    channel-fits g.T.Sample.format c.args.self.now c.args.numbers.now c.requires.0 is.some is.long c.requires.1
