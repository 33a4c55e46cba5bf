use Rattle.std.proofs.Common.{◌∙◌, ap, sym, Some}
use Rattle.std.proofs.lemmas.Bool.{false≢true}
use Rattle.dsp_conv.proofs.CorrelateFilters.{fits-count, channel-fits}
use Rattle.dsp_conv.proofs.correlate.CorrelateFilter.place.Goals as goal

pub returns-then-fits-clause-least : goal.returns-then-fits-clause-least
returns-then-fits-clause-least g c = λ n at. ap Some (sym
    (fits-count g.T.Sample.format c.args.self.now.taps c.args.numbers.now n at))

pub returns-else-fits-clause-least : goal.returns-else-fits-clause-least
returns-else-fits-clause-least g c = λ n at.
    absurd (false≢true (sym c.if-fits.false ∙ c.fits.ensures.1
    (channel-fits g.T.Sample.format c.args.self.now.taps c.args.numbers.now n at)))
