use Rattle.std.proofs.Common.{◌∙◌, sym, subst}
use Rattle.dsp_rate.proofs.InterpolateFilters.{KeepsEnough, phased-keeps, fits-interpolate}
use Rattle.dsp_rate.proofs.interpolate.Interpolate.fits_if_kept.Goals as goal

pub returns : goal.returns
returns g c =
    let f = c.args.self.now in
    let keeps = subst KeepsEnough c.self.view_is (phased-keeps _ _ _ c.self.invariant.1) in
    let fits = fits-interpolate g.T.Sample.format f.factor f.taps c.requires.0 c.args.numbers.now c.requires.1 in
    record { length = fits.0 ∙ sym keeps; samples = fits.1 }
