use Rattle.std.proofs.Common.{◌≡◌, ◌∙◌, ap, refl, sym, ℕ, ℤ, ◌<◌, ◌+◌, ◌-◌, ◌+ℤ◌, ◌*ℤ◌, length, map, reverse, pos}
use Rattle.std.proofs.Common.{arith}
use Rattle.std.proofs.lemmas.List.{get_or-reverse, length-map}
use Rattle.dsp_defs.specs.Numbers.{wrap}
use Rattle.dsp_defs.specs.Formats.{accumulator, close}
use Rattle.dsp_defs.specs.Signal.{sample, sum_below}
use Rattle.dsp_defs.proofs.FormatLemmas.{close-wrap}
use Rattle.dsp_defs.proofs.SumLemmas.{wrapped_sum-more, sample-map}
use Rattle.dsp_conv.proofs.sums.closed_backwards.Goals as goal

pub loop-k-preserved : goal.loop-k-preserved
loop-k-preserved g c =
    let T = g.T.Sample in
    let number = T.number in
    let k = c.loop-k.k in
    let is_a = sample-map number c.args.a.now k c.index-a-k.result (omega arith) c.index-a-k.is in
    let inside : k < length (map number c.args.b.now) = omega (arith, length-map c.args.b.now number) in
    let place : length c.args.b.now - 1 - k ≡ length (map number c.args.b.now) - 1 - k =
    omega (arith, length-map c.args.b.now number) in
    let is_b = sample-map number c.args.b.now (length c.args.b.now - 1 - k) c.index-b-b.result (omega arith)
    c.index-b-b.is ∙ ap (sample (map number c.args.b.now)) place ∙
    sym (get_or-reverse (map number c.args.b.now) k (pos 0) inside) in
    record {
      sum = wrapped_sum-more (accumulator T.format) k (k + 1) (map number c.args.a.now)
          (reverse (map number c.args.b.now)) (number c.index-a-k.result) (number c.index-b-b.result)
          (T.total c.loop-k.sum) (T.total c.accumulate-sum.result) refl is_a is_b c.loop-k.invariant.sum
          (c.accumulate-sum.ensures ∙ ap (λ p. wrap (accumulator T.format) (T.total c.loop-k.sum +ℤ p))
          c.product.ensures.value);
      steps = record {
        multiplies_rise = omega (arith, c.loop-k.invariant.steps, c.product.ensures.steps);
        turns_rise = omega (arith, c.loop-k.invariant.steps, c.product.ensures.steps);
      };
    }

pub returns-clause-value : goal.returns-clause-value
returns-clause-value g c =
    let T = g.T.Sample in
    let k = c.loop-k.k in
    let products : ℕ → ℤ = λ j. sample (map T.number c.args.a.now) j *ℤ sample (reverse (map T.number c.args.b.now)) j
    in
    let all : k ≡ length c.args.a.now = omega arith in
    c.close.ensures ∙ ap (close T.format) c.loop-k.invariant.sum ∙ close-wrap T.format (sum_below k products) ∙
    ap (λ n. close T.format (sum_below n products)) all
