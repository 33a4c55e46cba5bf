use Rattle.std.proofs.Common.{◌≡◌, ◌∙◌, ap₂, ℕ, ◌+◌, ◌<◌, ◌≤◌, length, map, arith}
use Rattle.std.proofs.lemmas.List.{length-map}
use Rattle.dsp_defs.specs.Formats.{close}
use Rattle.dsp_conv.specs.Sums.{correlation_at, correlation_terms}
use Rattle.dsp_conv.proofs.Stretches.{nothing-made, nothing-written, three-written, three-correlated}
use Rattle.dsp_conv.proofs.sums.correlation_values.Goals as goal

pub returns : goal.returns
returns g c =
    let T = g.T.Sample in
    let a = c.args.a.now in
    let b = c.args.b.now in
    let n = length a in
    let t = length b in
    let first = c.args.first in
    let f = λ (k : ℕ). close T.format (correlation_at (map T.number b) (map T.number a) k) in
    let p = length c.split_at_mut-before.result.0.now in
    let q = length c.split_at_mut-inside.result.0.now in
    let r = length c.split_at_mut-inside.result.1.now in
    let front = c.split_at_mut-before.ensures in
    let back = c.split_at_mut-inside.ensures in
    let sums = c.middle_of-sums in
    let whole : length c.args.out.now ≡ p + (q + r) = omega (arith, front, back, sums.ensures) in
    let next : first + sums.result.start ≡ first + p = omega (arith, front, back) in
    let last : first + sums.result.end ≡ first + p + q = omega (arith, front, back, sums.ensures) in
    let la : length (map T.number a) ≡ n = length-map a T.number in
    let lb : length (map T.number b) ≡ t = length-map b T.number in
    let some : 1 ≤ length (map T.number a) = omega (arith, la, c.requires.some) in
    let taps : 1 ≤ length (map T.number b) = omega (arith, lb, c.requires.taps) in
    let before : (i : ℕ) → i < p → correlation_terms n t (first + i) ≡ 0 = λ i below.
    let reached = sums.ensures.before (omega (arith, below, next)) in
    omega (arith, below, next, reached, c.saturating_sub-from.ensures) in
    let behind : (i : ℕ) → i < r → correlation_terms n t (first + sums.result.end + i) ≡ 0 = λ i below.
    let past = sums.ensures.behind (omega (arith, below, whole, last)) in
    omega (arith, below, whole, last, past, c.saturating_sub-from.ensures, c.saturating_add-whole.ensures) in
    let terms : (k : ℕ) → correlation_terms (length (map T.number a)) (length (map T.number b)) k ≡
    correlation_terms n t k = λ k. ap₂ (λ x y. correlation_terms x y k) la lb in
    record {
      values = three-written T.number f first p q r c.clear.new.out c.correlation_sums.new.out c.clear-2.new.out whole
          next last
          (c.clear.ensures ∙ nothing-written T.format (map T.number a) (map T.number b) first p some taps
          (λ i below. terms (first + i) ∙ before i below))
          c.correlation_sums.ensures.values
          (c.clear-2.ensures ∙ nothing-written T.format (map T.number a) (map T.number b)
          (first + sums.result.end) r some taps
          (λ i below. terms (first + sums.result.end + i) ∙ behind i below));
      steps = three-correlated p q r whole next last (nothing-made n t first p before) c.correlation_sums.ensures.steps
          (nothing-made n t (first + sums.result.end) r behind);
    }
