use Rattle.std.proofs.Common.{◌∙◌, sym}
use Rattle.std.proofs.lemmas.Bool.{false≢true}
use Rattle.dsp_fir.specs.Laws.{windowed}
use Rattle.dsp_fir.proofs.ChannelLemmas.{channel-fits, fits-channel}
use Rattle.dsp_fir.proofs.window_filter.WindowFilterFilter.place.Goals as goal

pub returns-then-fits-clause-fits : goal.returns-then-fits-clause-fits
returns-then-fits-clause-fits g c =
    let is = windowed g.T.Sample.format _ c.self.invariant.0 in
    let fits = c.fits.ensures.0 c.if-fits.true in
    rw (← c.self.view_is) (channel-fits g.T.Sample.format _ is 0 c.args.numbers.now
    (fits.0 ∙ c.self.invariant.2 ∙ c.self.invariant.1) fits.1)

pub returns-else-fits-clause-least : goal.returns-else-fits-clause-least
returns-else-fits-clause-least g c = λ n here.
    let is = windowed g.T.Sample.format _ c.self.invariant.0 in
    let fits = fits-channel g.T.Sample.format _ is n c.args.numbers.now (rw (← c.self.view_is) at here) in
    absurd (false≢true (sym c.if-fits.false ∙ c.fits.ensures.1
    (fits.0 ∙ sym (c.self.invariant.2 ∙ c.self.invariant.1), fits.1)))
