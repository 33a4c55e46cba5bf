use Rattle.std.proofs.Common.{◌≡◌, ◌∙◌, ◌+◌, ◌≤◌, ap, sym, subst, pos, length, w64, to_z, of_z, arith}
use Rattle.std.proofs.Common.{length-take-le}
use Rattle.std.specs.Prelude.{◌≤ℤ◌}
use Rattle.std.proofs.lemmas.Bool.{false≢true}
use Rattle.std.proofs.lemmas.Int.{ints}
use Rattle.dsp_defs.specs.Signal.{sample}
use Rattle.dsp_conv.specs.Extent.{greatest_place}
use Rattle.dsp_conv.specs.ConvState.{ConvState}
use Rattle.dsp_conv.proofs.Inside.{inside}
use Rattle.dsp_conv.proofs.CallLemmas.{fits-is}
use Rattle.dsp_conv.proofs.convolution.Convolution.fits.Goals as goal

pub returns : goal.returns
returns g c =
    let d = c.self.inside in
    let numbers = c.args.numbers.now in
    let last = c.len-last.result in
    let here = inside g.T.Sample.number d.reversed d.zeros c.self.invariant c.self.view_is in
    let at : last ≡ length c.args.self.now.past = omega (arith, c.len-last.ensures, here) in
    let low : pos 0 ≤ℤ sample numbers last = omega (arith, ints, c.if-place-lt0.false) in
    let greatest = ap (λ (s : ConvState). greatest_place s.extent) c.self.view_is in
    let few : c.as_place.result ≤ greatest_place c.args.self.now.extent =
    omega (arith, c.if-greatest_place-as_place.false, c.greatest_place.ensures.greatest, greatest) in
    let read : to_z w64 (of_z w64 (sample numbers last)) ≡ sample numbers last = omega (arith, ints) in
    let high = subst (λ z. z ≤ℤ pos (greatest_place c.args.self.now.extent)) (c.as_place.ensures.place ∙ read)
    (omega (arith, ints, few)) in
    fits-is g.T.Sample.format c.args.self.now numbers last c.fits.result at (omega (arith, c.if-numbers-last.false))
    low high (rw (here.past_long ∙ sym at) at c.fits.ensures)

pub bounds-numbers-last : goal.bounds-numbers-last
bounds-numbers-last g c = omega (arith, c.if-numbers-last.false)

pub slice_bounds-fits-end : goal.slice_bounds-fits-end
slice_bounds-fits-end g c = sym (length-take-le c.len-last.result c.args.numbers.now
    (omega (arith, c.if-numbers-last.false)))

pub returns-then-numbers-last : goal.returns-then-numbers-last
returns-then-numbers-last g c =
    let here = inside g.T.Sample.number c.self.inside.reversed c.self.inside.zeros c.self.invariant c.self.view_is in
    let at : length c.args.self.now.past ≡ c.len-last.result = omega (arith, c.len-last.ensures, here) in
    (λ h. absurd (false≢true h), λ fits. absurd (c.if-numbers-last.true (fits.count ∙ ap (λ n. n + 1) at)))
