use Rattle.std.proofs.Common.{◌≡◌, ◌∙◌, ap, ap₂, sym, subst, ◌+◌, ◌-◌, ◌++◌, ℕ, ℤ, pos, List, [], ◌∷◌, length, map}
use Rattle.std.proofs.Common.{take, w64, to_z, of_z, arith, length-take-le}
use Rattle.std.specs.Prelude.{◌≤ℤ◌, ◌<ℤ◌, nat_abs, All, FitsSigned}
use Rattle.std.proofs.lemmas.Int.{ints}
use Rattle.dsp_defs.specs.Formats.{word}
use Rattle.dsp_defs.specs.Signal.{sample}
use Rattle.dsp_window.specs.Rolling.{Rolling, last_samples}
use Rattle.dsp_window.proofs.Rolls.{length-last_samples}
use Rattle.dsp_window.proofs.Pushed.{restored-past}
use Rattle.dsp_rate.specs.DecimateState.{DecimateState}
use Rattle.dsp_rate.proofs.DecimateLemmas.{kept-stands, with-last}
use Rattle.dsp_rate.proofs.decimate.Decimate.restore.Goals as goal
use Rattle.dsp_filter.proofs.LastPlace.{number-read}

pub invariant_of-self : goal.invariant_of-self
invariant_of-self g c =
    let d = c.self.inside in
    let inv = c.self.invariant in
    let numbers = c.args.numbers.now in
    let last = length numbers - 1 in
    let new = c.restore.new.self in
    let kept_long : length c.args.self.now.past ≡ d.window.past =
    ap (λ (s : DecimateState). length s.past) (sym c.self.view_is) ∙
    length-last_samples d.window.past d.window.samples inv.6 in
    let at : length c.args.self.now.past ≡ last = omega (arith, c.requires.fits.count) in
    let past_same : new.past ≡ d.window.past = ap (λ (w : Rolling). w.past) c.restore.ensures in
    let room_same : new.room ≡ d.window.room = ap (λ (w : Rolling). w.room) c.restore.ensures in
    let samples : length new.samples ≡ last = ap (λ (w : Rolling). length w.samples) c.restore.ensures ∙
    length-take-le last numbers (omega arith) in
    let low : pos 0 ≤ℤ sample numbers last = subst (λ k. pos 0 ≤ℤ sample numbers k) at c.requires.fits.low in
    let read : to_z w64 (of_z w64 (sample numbers last)) ≡ sample numbers last = omega (arith, ints) in
    let phase = number-read (to_z w64 (of_z w64 (sample numbers last))) (sample numbers last) read low in
    let high = subst (λ k. sample numbers k <ℤ pos c.args.self.now.factor) at c.requires.fits.high in
    let factor : c.args.self.now.factor ≡ d.factor = ap (λ (s : DecimateState). s.factor) (sym c.self.view_is) in
    let below = subst (λ z. z <ℤ pos c.args.self.now.factor) (sym phase) high in (
      ap (λ p. p + 2) past_same ∙ inv.0,
      inv.1,
      inv.2,
      omega (arith, ints, below, factor),
      inv.4,
      omega (arith, room_same, inv.5),
      omega (arith, samples, past_same, kept_long, at),
    )

pub returns-clause-count : goal.returns-clause-count
returns-clause-count g c =
    let d = c.self.inside in
    let numbers = c.args.numbers.now in
    let last = length numbers - 1 in
    let kept_long : length c.args.self.now.past ≡ d.window.past =
    ap (λ (s : DecimateState). length s.past) (sym c.self.view_is) ∙
    length-last_samples d.window.past d.window.samples c.self.invariant.6 in
    let long : length (take last numbers) ≡ d.window.past = length-take-le last numbers (omega arith) ∙
    omega (arith, c.requires.fits.count, kept_long) in
    ap length (restored-past d.window c.restore.new.self (take last numbers) c.restore.ensures long) ∙ long ∙
    sym kept_long

pub returns-clause-same : goal.returns-clause-same
returns-clause-same g c =
    let number = g.T.Sample.number in
    let d = c.self.inside in
    let new = c.restore.new.self in
    let past = last_samples new.past new.samples in
    let phase = nat_abs (to_z w64 (of_z w64 (sample c.args.numbers.now (length c.args.numbers.now - 1)))) in
    let room_same : new.room ≡ d.window.room = ap (λ (w : Rolling). w.room) c.restore.ensures in
    ap (λ (r : ℕ). record {
      factor = d.factor;
      taps = map number d.taps.items;
      past = past;
      phase = phase;
      block =
          r;
      ended = d.ended;
    }) room_same
    ∙ ap (λ (s : DecimateState). record s { past = past; phase = phase }) c.self.view_is

pub returns-clause-kept : goal.returns-clause-kept
returns-clause-kept g c =
    let d = c.self.inside in
    let numbers = c.args.numbers.now in
    let last = length numbers - 1 in
    let kept_long : length c.args.self.now.past ≡ d.window.past =
    ap (λ (s : DecimateState). length s.past) (sym c.self.view_is) ∙
    length-last_samples d.window.past d.window.samples c.self.invariant.6 in
    let at : length c.args.self.now.past ≡ last = omega (arith, c.requires.fits.count) in
    let whole : length numbers ≡ last + 1 = omega (arith, c.requires.fits.count) in
    let long : length (take last numbers) ≡ d.window.past = length-take-le last numbers (omega (arith, whole)) ∙
    sym at ∙ kept_long in
    let low : pos 0 ≤ℤ sample numbers last = subst (λ k. pos 0 ≤ℤ sample numbers k) at c.requires.fits.low in
    let read : to_z w64 (of_z w64 (sample numbers last)) ≡ sample numbers last = omega (arith, ints) in
    ap₂ (λ (p : List ℤ) z. p ++ z ∷ []) (restored-past d.window c.restore.new.self (take last numbers)
    c.restore.ensures long) (number-read (to_z w64 (of_z w64 (sample numbers last))) (sample numbers last) read low)
    ∙ with-last numbers last whole

pub returns-clause-stands : goal.returns-clause-stands
returns-clause-stands g c = λ x is.
    kept-stands g.T.Sample.format _ c.args.numbers.now x (returns-clause-kept g c) (rw (← c.self.view_is) at is)

pub restore-requires-clause-length : goal.restore-requires-clause-length
restore-requires-clause-length g c =
    let d = c.self.inside in
    let numbers = c.args.numbers.now in
    let kept_long : length c.args.self.now.past ≡ d.window.past =
    ap (λ (s : DecimateState). length s.past) (sym c.self.view_is) ∙
    length-last_samples d.window.past d.window.samples c.self.invariant.6 in
    length-take-le (length numbers - 1) numbers (omega arith) ∙ omega (arith, c.requires.fits.count, kept_long)

pub restore-requires-clause-samples : goal.restore-requires-clause-samples
restore-requires-clause-samples g c =
    let at : length c.args.self.now.past ≡ length c.args.numbers.now - 1 = omega (arith, c.requires.fits.count) in
    subst (λ k. All (FitsSigned (word g.T.Sample.format)) (take k c.args.numbers.now)) at c.requires.fits.samples
