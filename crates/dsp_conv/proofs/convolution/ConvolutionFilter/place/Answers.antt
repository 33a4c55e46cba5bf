use Rattle.std.proofs.Common.{◌≡◌, ◌∙◌, ◌-◌, ap, sym, refl, Some, length, w64, to_z, of_z, arith}
use Rattle.std.proofs.lemmas.Int.{ints}
use Rattle.std.proofs.lemmas.Bool.{false≢true}
use Rattle.dsp_defs.specs.Signal.{sample}
use Rattle.dsp_conv.proofs.CallLemmas.{is-kept}
use Rattle.dsp_conv.proofs.Inside.{inside}
use Rattle.dsp_conv.proofs.ChannelLemmas.{fits-channel, channel-fits, place-is}
use Rattle.dsp_conv.proofs.convolution.ConvolutionFilter.place.Goals as goal

pub as_place-requires : goal.as_place-requires
as_place-requires g c =
    let kept = is-kept g.T.Sample.format c.args.self.now c.args.numbers.now (length c.args.numbers.now - 1)
    (c.fits.ensures.0 c.if-fits.true) refl in
    omega (arith, ints, kept.low)

pub returns-then-fits : goal.returns-then-fits
returns-then-fits g c =
    let format = g.T.Sample.format in
    let d = c.args.self.now in
    let here = c.self.inside in
    let long = (inside g.T.Sample.number here.reversed here.zeros c.self.invariant c.self.view_is).is.long in
    let numbers = c.args.numbers.now in
    let fits = c.fits.ensures.0 c.if-fits.true in
    let last : length numbers - 1 ≡ length d.past = omega (arith, fits.count) in
    let read : to_z w64 (of_z w64 (sample numbers (length numbers - 1))) ≡ sample numbers (length numbers - 1) =
    omega (arith, ints) in
    let place = c.as_place.ensures.place ∙ read ∙ ap (sample numbers) last in
    record {
      fits = fits-channel format d numbers _ long fits place;
      least = λ n at. ap Some (place-is format d numbers n long at _ place);
    }

pub returns-else-fits-clause-least : goal.returns-else-fits-clause-least
returns-else-fits-clause-least g c = λ n at.
    let here = c.self.inside in
    let long = (inside g.T.Sample.number here.reversed here.zeros c.self.invariant c.self.view_is).is.long in
    absurd (false≢true (sym c.if-fits.false ∙ c.fits.ensures.1
    (channel-fits g.T.Sample.format c.args.self.now c.args.numbers.now n long at)))
