use Rattle.std.proofs.Common.{◌≡◌, length, vec_len, rules}
use Rattle.dsp_conv.proofs.CorrelateFilters.{is-correlation, channel-fits, channel-restored}
use Rattle.dsp_conv.proofs.correlate.CorrelateFilter.restore.Goals as goal

pub restore-requires : goal.restore-requires
restore-requires g c =
    let (n, at) = c.requires.fits in
    let fits = channel-fits g.T.Sample.format c.args.self.now.taps c.args.numbers.now n at in
    record { running = c.requires.running; few = fits.0; samples = fits.1 }

pub returns : goal.returns
returns g c =
    let d = c.self.inside in
    let counted : vec_len d.taps ≡ length d.taps.items = search rules in
    let is = is-correlation g.T.Sample.number d.taps.items d.gather c.self.invariant counted c.self.view_is in
    channel-restored g.T.Sample.format c.args.self.now c.restore.new.self is c.args.numbers.now c.requires.running
    c.restore.ensures
