use Rattle.std.proofs.Common.{◌∙◌, sym, subst}
use Rattle.std.proofs.lemmas.Bool.{false≢true}
use Rattle.dsp_rate.proofs.InterpolateFilters.{KeepsEnough, phased-keeps, interpolate-fits, fits-interpolate}
use Rattle.dsp_rate.proofs.interpolate.InterpolateFilter.place.Goals as goal

pub returns-then-fits-clause-fits : goal.returns-then-fits-clause-fits
returns-then-fits-clause-fits g c =
    let f = c.args.self.now in
    let keeps = subst KeepsEnough c.self.view_is (phased-keeps _ _ _ c.self.invariant.1) in
    let fits = c.fits.ensures.0 c.if-fits.true in
    interpolate-fits g.T.Sample.format f.factor f.taps 0 c.args.numbers.now (fits.0 ∙ keeps) fits.1

pub returns-else-fits-clause-least : goal.returns-else-fits-clause-least
returns-else-fits-clause-least g c = λ n at.
    let f = c.args.self.now in
    let keeps = subst KeepsEnough c.self.view_is (phased-keeps _ _ _ c.self.invariant.1) in
    let fits = fits-interpolate g.T.Sample.format f.factor f.taps n c.args.numbers.now at in
    absurd (false≢true (sym c.if-fits.false ∙ c.fits.ensures.1 (fits.0 ∙ sym keeps, fits.1)))
