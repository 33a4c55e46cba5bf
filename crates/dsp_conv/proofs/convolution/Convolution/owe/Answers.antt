use Rattle.std.proofs.Common.{◌∙◌, ap, sym, refl, length, map, reverse, arith}
use Rattle.dsp_window.specs.Rolling.{last_samples}
use Rattle.dsp_conv.specs.ConvState.{ConvState}
use Rattle.dsp_conv.specs.Extent.{zeros_behind}
use Rattle.dsp_conv.proofs.Inside.{inside, moved-sound}
use Rattle.dsp_conv.proofs.CallLemmas.{owed}
use Rattle.dsp_conv.proofs.convolution.Convolution.owe.Goals as goal

pub invariant_of-self : goal.invariant_of-self
invariant_of-self g c =
    let inv = c.self.invariant in
    let here = inside g.T.Sample.number c.self.inside.reversed c.self.inside.zeros inv c.self.view_is in
    moved-sound c.self.inside.window.samples inv refl inv.filled
    (omega (arith, here, c.zeros_behind.ensures.few, c.given-given.ensures)) inv.place_within inv.place_fits

pub returns : goal.returns
returns g c =
    let d = c.self.inside in
    let reversed = map g.T.Sample.number d.reversed.items in
    let past = last_samples d.window.past d.window.samples in
    let zeros = c.zeros_behind.ensures.value ∙
    ap (λ (s : ConvState). zeros_behind s.place (length s.taps)) (sym c.self.view_is) in
    let tail = owed g.T.Sample.format d.extent reversed past d.place c.zeros_behind.result c.given-given.result.start
    c.given-given.result.end zeros c.given-given.ensures.start c.given-given.ensures.end in
    rw (← c.self.view_is)
    (λ i. record {
      extent = d.extent;
      taps = reverse reversed;
      past = past;
      place = d.place;
      tail = tail i;
      block = d.block;
      ended = d.ended;
    })
