use Rattle.std.proofs.Common.{◌≡◌, ◌<◌, ◌∙◌, ap, ℕ, ◌-◌, ◌+◌, ◌*◌, ◌/◌, ◌%◌, ℤ, [], ◌∷◌, ◌++◌, map, length, sym, arith}
use Rattle.std.proofs.lemmas.List.{map-append}
use Rattle.std.proofs.lemmas.Nat.{div_below, mod_below}
use Rattle.dsp_defs.specs.Signal.{sample}
use Rattle.dsp_defs.proofs.Signal.{values-add}
use Rattle.dsp_defs.proofs.SumLemmas.{sample-map}
use Rattle.dsp_rate.proofs.InterpolateLemmas.{place-within, some-rows, whole-taps}
use Rattle.dsp_rate.proofs.phases.sort_by_phase.Goals as goal

-- there are taps for each phase, and the place from which tap i is taken lies within
inside-taps :
    (factor n i : ℕ) → n % factor ≡ 0 → i < n →
    (0 < n / factor) × (i / (n / factor) < factor) × (factor - 1 - i / (n / factor) + i % (n / factor) * factor < n)
inside-taps factor n i whole test =
    let count = n / factor in
    let all : n ≡ count * factor = whole-taps factor n whole in
    let below : i < factor * count = omega (arith, all, test) in
    let some : 0 < count = some-rows factor count i below in
    let phase : i / count < factor = div_below i count factor some below in
    let inside = place-within count factor (i % count) (factor - 1 - i / count) (mod_below i count some)
    (omega (arith, phase)) in
    (some, phase, omega (arith, inside, all))

pub nonzero_div-i : goal.nonzero_div-i
nonzero_div-i g c =
    let inside = inside-taps c.args.factor (length c.args.taps.now) c.loop-i.i c.requires.whole c.loop-i-test.true in
    inside.0

pub nonzero_rem-i : goal.nonzero_rem-i
nonzero_rem-i g c =
    let inside = inside-taps c.args.factor (length c.args.taps.now) c.loop-i.i c.requires.whole c.loop-i-test.true in
    inside.0

pub overflow_sub-factor-in-loop-i : goal.overflow_sub-factor-in-loop-i
overflow_sub-factor-in-loop-i g c =
    let inside = inside-taps c.args.factor (length c.args.taps.now) c.loop-i.i c.requires.whole c.loop-i-test.true in
    let phase = inside.1 in omega (arith, phase)

pub overflow_mul-i : goal.overflow_mul-i
overflow_mul-i g c =
    let inside = inside-taps c.args.factor (length c.args.taps.now) c.loop-i.i c.requires.whole c.loop-i-test.true in
    let within = inside.2 in omega (arith, within)

pub overflow_add-factor : goal.overflow_add-factor
overflow_add-factor g c =
    let inside = inside-taps c.args.factor (length c.args.taps.now) c.loop-i.i c.requires.whole c.loop-i-test.true in
    let within = inside.2 in omega (arith, within)

pub bounds-taps-factor : goal.bounds-taps-factor
bounds-taps-factor g c =
    let inside = inside-taps c.args.factor (length c.args.taps.now) c.loop-i.i c.requires.whole c.loop-i-test.true in
    inside.2

pub loop-i-preserved : goal.loop-i-preserved
loop-i-preserved g c =
    let number = g.T.Sample.number in
    let taps = c.args.taps.now in
    let factor = c.args.factor in
    let count = length taps / factor in
    let i = c.loop-i.i in
    let tap : ℕ → ℤ = λ k. sample (map number taps) (factor - 1 - k / count + k % count * factor) in
    let inside = inside-taps factor (length taps) i c.requires.whole c.loop-i-test.true in
    let read : number c.index-taps-factor.result ≡ tap i =
    sample-map number taps (factor - 1 - i / count + i % count * factor) c.index-taps-factor.result inside.2
    c.index-taps-factor.is in
    let here : i ≡ i + 0 = omega arith in
    ap (map number) c.in_ok-push.ensures.items
    ∙ map-append number c.loop-i.phases.items (c.index-taps-factor.result ∷ [])
    ∙ (λ k. c.loop-i.invariant k ++ (read ∙ ap tap here) k ∷ [])
    ∙ sym (values-add i 1 tap)
