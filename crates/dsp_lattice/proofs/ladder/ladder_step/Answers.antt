use Rattle.std.proofs.Common.{◌≡◌, ◌≢◌, ◌∙◌, ap, refl, sym, subst, ℕ, ℤ, List, ◌<◌, ◌+◌, ◌+ℤ◌, ◌-ℤ◌, ◌*ℤ◌, length}
use Rattle.std.proofs.Common.{map, drop, set, pos, arith}
use Rattle.std.specs.Prelude.{FitsSigned, All}
use Rattle.std.proofs.lemmas.List.{map-set, length-map, length-set, drop-set-lt, drop-drop, get_or-drop}
use Rattle.dsp_defs.specs.Numbers.{saturate, wrap}
use Rattle.dsp_defs.specs.Formats.{word, word_bits, accumulator, close}
use Rattle.dsp_defs.specs.Signal.{sample, sum_below}
use Rattle.dsp_defs.specs.Lattice.{backward_values}
use Rattle.dsp_defs.proofs.Signal.{sum_below_cong}
use Rattle.dsp_defs.proofs.SumLemmas.{wrapped_sum-more, sample-map, sample-map-set_other, sample-map-set_same}
use Rattle.dsp_lattice.specs.LatticeState.{reflection}
use Rattle.dsp_lattice.proofs.Ladders.{sections-more, sections-done, values-fit, ladder-closes}
use Rattle.dsp_lattice.proofs.ladder.ladder_step.Goals as goal

-- one more value and its product
module _ {X : Type 0} (number : X → ℤ) where
  summed : (n : ℕ) (vs : List ℤ) (xs : List X) (x : X) →
      sum_below n (λ j. sample vs j *ℤ sample (map number xs) j) ≡ sum_below n
      (λ j. sample vs j *ℤ sample (map number (set xs n x)) j)
  summed n vs xs x =
      sum_below_cong n (λ j. sample vs j *ℤ sample (map number xs) j)
      (λ j. sample vs j *ℤ sample (map number (set xs n x)) j)
      (λ j below. let other : j ≢ n = omega arith in ap (λ z. sample vs j *ℤ z)
      (sym (sample-map-set_other number xs n j x other)))

-- a value that is not written yet
left-over : (at : ℕ) (news olds : List ℤ) → drop at news ≡ drop at olds → sample news at ≡ sample olds at
left-over at news olds rest =
    let here : at + 0 ≡ at = omega arith in
    ap (sample news) (sym here) ∙ sym (get_or-drop at news 0 (pos 0)) ∙ ap (λ l. sample l 0) rest ∙
    get_or-drop at olds 0 (pos 0) ∙ ap (sample olds) here

pub loop-m-preserved : goal.loop-m-preserved
loop-m-preserved g c =
    let T = g.T.Sample in
    let number = T.number in
    let bits = word_bits T.format in
    let m = c.loop-m.m in
    let olds = c.args.backward.now in
    let news = c.loop-m.backward in
    let k = c.index-reflections-m.result in
    let b = c.index-backward-m.result in
    let v = c.index-ladder-m.result in
    let next = c.raised-g.result in
    let so_far = c.loop-m.invariant in
    let rest = so_far.done.rest in
    let inside : m < length news = omega arith in
    let vs = map number c.args.ladder.now in
    let is_k = sample-map number c.args.reflections.now m k (omega arith) c.index-reflections-m.is in
    let is_b = sample-map number news (m + 1) b (omega arith) c.index-backward-m.is ∙
    left-over (m + 1) (map number news) (map number olds) rest in
    let is_v = sample-map number c.args.ladder.now m v (omega arith) c.index-ladder-m.is in
    let lower = c.lowered-f.ensures ∙ ap (λ p. saturate bits (number c.loop-m.f -ℤ reflection T.format p))
    c.product-down.ensures.value in
    let upper = c.raised-g.ensures ∙ ap (λ p. saturate bits (reflection T.format p +ℤ number b))
    c.product-up.ensures.value in
    record {
      done = record {
        values = rw map-set
            (sections-more T.format (map number c.args.reflections.now) (map number olds) (map number news) _ m
            (number c.loop-m.f) (number k) (number b) (number c.lowered-f.result) (number next)
            (omega (arith, length-map c.args.reflections.now number)) (omega (arith, length-map news number)) is_k
            is_b lower upper so_far.done.values);
        rest = ap (drop (m + 1 + 1)) (map-set number news m next)
            ∙ drop-set-lt (m + 1 + 1) (map number news) m (number next) (omega arith)
            ∙ sym (drop-drop 1 (m + 1) (map number news))
            ∙ ap (drop 1) rest
            ∙ drop-drop 1 (m + 1) (map number olds);
        sum_is = wrapped_sum-more (accumulator T.format) m (m + 1) vs (map number (set news m next)) (number v)
            (number next) (T.total c.loop-m.sum) (T.total c.accumulate-sum.result) refl is_v
            (sym (sample-map-set_same number news m next inside))
            (so_far.done.sum_is ∙ ap (wrap (accumulator T.format)) (summed number m vs news next))
            (c.accumulate-sum.ensures ∙ ap (λ p. wrap (accumulator T.format) (T.total c.loop-m.sum +ℤ p))
            c.product-term.ensures.value);
      };
      steps = record {
        multiplies_rise = omega (
          arith,
          so_far.steps,
          c.product-down.ensures.steps,
          c.product-up.ensures.steps,
          c.product-term.ensures.steps,
        );
        turns_rise = omega (
          arith,
          so_far.steps,
          c.product-down.ensures.steps,
          c.product-up.ensures.steps,
          c.product-term.ensures.steps,
        );
      };
    }

pub returns-clause-backward : goal.returns-clause-backward
returns-clause-backward g c =
    let number = g.T.Sample.number in
    let m = c.loop-m.m in
    let news = c.loop-m.backward in
    rw map-set
    (sections-done g.T.Sample.format (map number c.args.reflections.now) (map number c.args.backward.now)
    (map number news)
    (backward_values g.T.Sample.format (number c.args.x) (map number c.args.reflections.now)
    (drop 1 (map number c.args.backward.now))) m (length c.args.reflections.now) (number c.loop-m.f)
    (omega (arith, length-map c.args.reflections.now number)) (omega arith) (omega (arith, length-map news number))
    c.loop-m.invariant.done.values)

pub returns-clause-value : goal.returns-clause-value
returns-clause-value g c =
    let T = g.T.Sample in
    let number = T.number in
    let last = length c.args.reflections.now in
    let m = c.loop-m.m in
    let done : m ≡ last = omega arith in
    let news = c.loop-m.backward in
    let f = c.loop-m.f in
    let v = c.index-ladder-last.result in
    let vs = map number c.args.ladder.now in
    let all = map number (set news last f) in
    let inside : last < length news = omega arith in
    let long : length vs ≡ last + 1 = omega (arith, length-map c.args.ladder.now number) in
    let long_all : length all ≡ last + 1 = omega (arith, length-map (set news last f) number, length-set news last f) in
    let fits_x = subst (FitsSigned (word T.format)) c.number-number.ensures.value c.number-number.ensures.fits in
    let fits : All (FitsSigned (word T.format)) all = subst (All (FitsSigned (word T.format)))
    (sym (returns-clause-backward g c)) (values-fit T.format (number c.args.x) (map number c.args.reflections.now)
    (drop 1 (map number c.args.backward.now)) fits_x) in
    let before : T.total c.loop-m.sum ≡ wrap (accumulator T.format)
    (sum_below last (λ j. sample vs j *ℤ sample all j)) =
    subst (λ (n : ℕ). T.total c.loop-m.sum ≡ wrap (accumulator T.format)
    (sum_below n (λ j. sample vs j *ℤ sample (map number news) j))) done c.loop-m.invariant.done.sum_is ∙
    ap (wrap (accumulator T.format)) (summed number last vs news f) in
    let total =
    wrapped_sum-more (accumulator T.format) last (length vs) vs all (number v) (number f) (T.total c.loop-m.sum)
    (T.total c.accumulate.result) long
    (sample-map number c.args.ladder.now last v (omega arith) c.index-ladder-last.is)
    (sym (sample-map-set_same number news last f inside)) before
    (c.accumulate.ensures ∙ ap (λ p. wrap (accumulator T.format) (T.total c.loop-m.sum +ℤ p))
    c.product-term-2.ensures.value) in
    c.close.ensures ∙ ap (close T.format) total ∙ ladder-closes T.format g.met.T.LatticeSample.has_lattice vs all
    (length vs) (omega (arith, long)) (omega arith) (omega (arith, long, long_all)) c.requires.in_format fits
