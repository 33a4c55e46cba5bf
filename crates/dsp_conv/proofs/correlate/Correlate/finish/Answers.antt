use Rattle.std.proofs.Common.{◌≡◌, ◌∙◌, ap, ap₂, sym, ◌+◌, ◌-◌, ◌*◌, ◌≤◌, ◌++◌, ℕ, min, max, length, map, take, drop}
use Rattle.std.proofs.Common.{vec_len, rules, true, arith, length-take-le, subst}
use Rattle.std.proofs.lemmas.List.{drop_at, length-map, nil_from_length}
use Rattle.dsp_defs.specs.Formats.{close}
use Rattle.dsp_defs.specs.Signal.{values}
use Rattle.dsp_filter.proofs.Slices.{front-written}
use Rattle.dsp_conv.specs.Sums.{CorrelationRises, correlation_at}
use Rattle.dsp_conv.specs.CorrelateState.{CorrelateState, tail_of}
use Rattle.dsp_conv.proofs.Correlations.{correlate-values, correlation-some, piece-given, length-dropped}
use Rattle.dsp_conv.proofs.correlate.Correlate.finish.Goals as goal

pub returns-clause-given : goal.returns-clause-given
returns-clause-given g c =
    let T = g.T.Sample in
    let d = c.self.inside in
    let b = map T.number d.taps.items in
    let x = d.gather in
    let value = λ (n : ℕ). close T.format (correlation_at b x n) in
    let view_len : vec_len d.taps ≡ length d.taps.items = search rules in
    let lb : length b ≡ length d.taps.items = length-map d.taps.items T.number in
    let lx : length c.slice-samples.result.now ≡ length x = c.slice-samples.ensures.length in
    let there : 1 ≤ length c.slice-samples.result.now = search rules in
    let some : 1 ≤ length x = omega (arith, there, lx) in
    let most : d.given ≤ 2 * max (length x) (vec_len d.taps) - 1 =
    omega (arith, c.self.invariant.within, correlation-some (length x) (vec_len d.taps) some) in
    let inside : d.given ≤ 2 * max (length x) (length b) - 1 = omega (arith, most, lb, view_len) in
    let long = ap length (ap (drop d.given) (correlate-values T.format b x some)) ∙
    length-dropped (2 * max (length x) (length b) - 1) d.given value inside in
    let count : c.min-count.result ≡ min (2 * max (length x) (length b) - 1 - d.given) (length c.args.output.now) =
    omega (arith, c.min-count.ensures, c.max.ensures, c.len.ensures, lx, lb, view_len) in
    count ∙ ap (λ n. min n (length c.args.output.now)) (sym long ∙
    ap (λ (s : CorrelateState). length (tail_of T.format s)) c.self.view_is)

pub returns-clause-spent : goal.returns-clause-spent
returns-clause-spent g c = λ room.
    let tail = tail_of g.T.Sample.format c.args.self.now in
    let given : c.min-count.result ≡ min (length tail) (length c.args.output.now) = returns-clause-given g c in (
      λ none. nil_from_length tail (omega (arith, given, none, room)),
      λ spent. let none : length tail ≡ 0 = ap length spent in
          omega (arith, given, none),
    )

pub returns-clause-tail : goal.returns-clause-tail
returns-clause-tail g c =
    let T = g.T.Sample in
    let number = T.number in
    let d = c.self.inside in
    let b = map number d.taps.items in
    let x = d.gather in
    let value = λ (n : ℕ). close T.format (correlation_at b x n) in
    let count = c.min-count.result in
    let output = c.args.output.now in
    let out = c.correlation_values.new.out in
    let view_len : vec_len d.taps ≡ length d.taps.items = search rules in
    let lb : length b ≡ length d.taps.items = length-map d.taps.items number in
    let lx : length c.slice-samples.result.now ≡ length x = c.slice-samples.ensures.length in
    let there : 1 ≤ length c.slice-samples.result.now = search rules in
    let some : 1 ≤ length x = omega (arith, there, lx) in
    let most : d.given ≤ 2 * max (length x) (vec_len d.taps) - 1 =
    omega (arith, c.self.invariant.within, correlation-some (length x) (vec_len d.taps) some) in
    let within : d.given + count ≤ 2 * max (length x) (length b) - 1 =
    omega (arith, most, c.min-count.ensures, c.max.ensures, c.len.ensures, lx, lb, view_len) in
    let written : length (take count output) ≡ count = length-take-le count output
    (omega (arith, c.min-count.ensures)) in
    let out_long : length out ≡ count = omega (arith, c.correlation_values.auto.out, written) in
    let whole = correlate-values T.format b x some in
    let given : map number out ≡ values count (λ i. value (d.given + i)) =
    c.correlation_values.ensures.values
    ∙ ap₂ (λ bs xs. values (length (take count output)) (λ i. close T.format (correlation_at bs xs (d.given + i))))
    (ap (map number) c.deref.ensures.value) c.slice-samples.ensures.samples
    ∙ ap (λ n. values n (λ i. value (d.given + i))) written in
    rw (← c.self.view_is)
    (rw (front-written count out output out_long)
    (ap (drop d.given) whole
    ∙ piece-given (2 * max (length x) (length b) - 1) d.given count value within
    ∙ ap₂ (λ front l. front ++ drop (d.given + count) l) (sym given) (sym whole)))

pub slice_bounds-output-end : goal.slice_bounds-output-end
slice_bounds-output-end g c = omega (arith, c.min-count.ensures)

pub slice_bounds-output-end-2 : goal.slice_bounds-output-end-2
slice_bounds-output-end-2 g c = sym (length-take-le c.min-count.result c.args.output.now
    (omega (arith, c.min-count.ensures)))

pub returns-clause-same : goal.returns-clause-same
returns-clause-same g c = ap (λ (s : CorrelateState). record s { given = s.given + c.min-count.result; ended = true })
    c.self.view_is

pub returns-clause-rest : goal.returns-clause-rest
returns-clause-rest g c =
    let count = c.min-count.result in
    let output = c.args.output.now in
    let written : length (take count output) ≡ count = length-take-le count output
    (omega (arith, c.min-count.ensures)) in
    drop_at c.correlation_values.new.out (drop count output) count (c.correlation_values.auto.out ∙ written)

pub returns-clause-multiplies : goal.returns-clause-multiplies
returns-clause-multiplies g c =
    let d = c.self.inside in
    let number = g.T.Sample.number in
    let taps = ap length c.deref.ensures.value ∙ sym (length-map d.taps.items number) in
    let written = length-take-le c.min-count.result c.args.output.now (omega (arith, c.min-count.ensures)) in
    let rises = subst (λ (p : ℕ × ℕ × ℕ). CorrelationRises p.0 p.1 d.given (d.given + p.2) c.args.steps.now
    c.correlation_values.new.steps) (λ i. (c.slice-samples.ensures.length i, taps i, written i))
    c.correlation_values.ensures.steps in
    rw (← c.self.view_is) rises.multiplies

pub returns-clause-turns : goal.returns-clause-turns
returns-clause-turns g c =
    let d = c.self.inside in
    let number = g.T.Sample.number in
    let taps = ap length c.deref.ensures.value ∙ sym (length-map d.taps.items number) in
    let written = length-take-le c.min-count.result c.args.output.now (omega (arith, c.min-count.ensures)) in
    let rises = subst (λ (p : ℕ × ℕ × ℕ). CorrelationRises p.0 p.1 d.given (d.given + p.2) c.args.steps.now
    c.correlation_values.new.steps) (λ i. (c.slice-samples.ensures.length i, taps i, written i))
    c.correlation_values.ensures.steps in
    rw (← c.self.view_is) rises.turns
