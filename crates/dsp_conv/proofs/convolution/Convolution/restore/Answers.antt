use Rattle.std.proofs.Common.{◌≡◌, ◌∙◌, ap, sym, refl, ◌-◌, pos, ◌++◌, [], ◌∷◌, length, take, w64, to_z}
use Rattle.std.proofs.Common.{of_z, arith, length-take-le}
use Rattle.std.proofs.lemmas.Int.{ints}
use Rattle.dsp_defs.specs.Signal.{sample}
use Rattle.dsp_conv.specs.Extent.{greatest_place}
use Rattle.dsp_conv.specs.ConvState.{ConvState}
use Rattle.dsp_conv.proofs.Inside.{inside, moved-sound}
use Rattle.dsp_conv.proofs.CallLemmas.{is-kept, restored}
use Rattle.dsp_conv.proofs.convolution.Convolution.restore.Goals as goal
use Rattle.dsp_window.proofs.Pushed.{restored-past}

pub overflow_sub-last : goal.overflow_sub-last
overflow_sub-last g c = omega (arith, c.requires.fits.count)

pub slice_bounds-restore-end : goal.slice_bounds-restore-end
slice_bounds-restore-end g c = sym (length-take-le (length c.args.numbers.now - 1) c.args.numbers.now
    (omega (arith, c.requires.fits.count)))

pub restore-requires : goal.restore-requires
restore-requires g c =
    let numbers = c.args.numbers.now in
    let here = inside g.T.Sample.number c.self.inside.reversed c.self.inside.zeros c.self.invariant c.self.view_is in
    let kept = is-kept g.T.Sample.format c.args.self.now numbers (length numbers - 1) c.requires.fits refl in
    record { length = kept.long ∙ sym here.past_long; samples = kept.fit }

pub bounds-numbers-last : goal.bounds-numbers-last
bounds-numbers-last g c = omega (arith, c.requires.fits.count)

pub as_place-self-inside-requires : goal.as_place-self-inside-requires
as_place-self-inside-requires g c =
    let numbers = c.args.numbers.now in
    let kept = is-kept g.T.Sample.format c.args.self.now numbers (length numbers - 1) c.requires.fits refl in
    omega (arith, ints, kept.low)

pub invariant_of-self : goal.invariant_of-self
invariant_of-self g c =
    let inv = c.self.invariant in
    let numbers = c.args.numbers.now in
    let last = length numbers - 1 in
    let here = inside g.T.Sample.number c.self.inside.reversed c.self.inside.zeros inv c.self.view_is in
    let kept = is-kept g.T.Sample.format c.args.self.now numbers last c.requires.fits refl in
    let read : to_z w64 (of_z w64 (sample numbers last)) ≡ sample numbers last = omega (arith, ints) in
    let place = c.as_place-self-inside.ensures in
    let greatest = ap (λ (s : ConvState). greatest_place s.extent) c.self.view_is in
    moved-sound (take last numbers) inv c.restore.ensures (omega (arith, here, kept.long)) inv.left_within
    (omega (arith, kept.within _ (place.place ∙ read), greatest)) place.fits

pub returns : goal.returns
returns g c =
    let d = c.self.inside in
    let numbers = c.args.numbers.now in
    let last = length numbers - 1 in
    let here = inside g.T.Sample.number d.reversed d.zeros c.self.invariant c.self.view_is in
    let kept = is-kept g.T.Sample.format c.args.self.now numbers last c.requires.fits refl in
    let read : to_z w64 (of_z w64 (sample numbers last)) ≡ sample numbers last = omega (arith, ints) in
    let past = restored-past d.window c.restore.new.self (take last numbers) c.restore.ensures
    (kept.long ∙ sym here.past_long) in
    let place = c.as_place-self-inside in
    let is = restored g.T.Sample.format _ numbers place.result c.self.view_is here.is c.requires.running c.owe.ensures
    (ap length past ∙ kept.long)
    (ap (λ l. l ++ pos place.result ∷ []) past ∙ kept.parts _ (place.ensures.place ∙ read)) in
    record { kept = is.kept; count = is.count; tail = is.tail; stands = is.stands; counts = is.counts; same = is.same }
