use Rattle.std.proofs.Common.{◌≡◌, ◌∙◌, ap, sym, subst, Some, length, vec_len, rules}
use Rattle.std.proofs.lemmas.Bool.{false≢true}
use Rattle.dsp_rate.proofs.ChannelLemmas.{IsDecimator, is-decimator, phase-read, fits-channel, channel-fits, place-is}
use Rattle.dsp_rate.proofs.decimate.DecimateFilter.place.Goals as goal

pub returns-then-fits : goal.returns-then-fits
returns-then-fits g c =
    let format = g.T.Sample.format in
    let d = c.args.self.now in
    let here = c.self.inside in
    let counted : vec_len here.taps ≡ length here.taps.items = search rules in
    let is = subst IsDecimator c.self.view_is (is-decimator g.T.Sample.number here.taps.items _ _ _ here.window _
    counted c.self.invariant.0 c.self.invariant.3 c.self.invariant.4 c.self.invariant.6) in
    let numbers = c.args.numbers.now in
    let fits = c.fits.ensures.0 c.if-fits.true in
    let phase = phase-read format d numbers is.few fits in
    record {
      fits = fits-channel format d numbers _ is.long fits phase;
      least = λ n at. ap Some (place-is format d numbers n _ is.long at phase);
    }

pub returns-else-fits-clause-least : goal.returns-else-fits-clause-least
returns-else-fits-clause-least g c = λ n at.
    let here = c.self.inside in
    let counted : vec_len here.taps ≡ length here.taps.items = search rules in
    let is = subst IsDecimator c.self.view_is (is-decimator g.T.Sample.number here.taps.items _ _ _ here.window _
    counted c.self.invariant.0 c.self.invariant.3 c.self.invariant.4 c.self.invariant.6) in
    let fits = channel-fits g.T.Sample.format c.args.self.now c.args.numbers.now n is.some is.long at in
    absurd (false≢true (sym c.if-fits.false ∙ c.fits.ensures.1 fits))
