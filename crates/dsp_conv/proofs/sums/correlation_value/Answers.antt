use Rattle.std.proofs.Common.{◌≡◌, ◌∙◌, ap, ap₂, sym, subst, ℕ, ◌+◌, ◌-◌, ◌*ℤ◌, min, max, length, map, take, drop}
use Rattle.std.proofs.Common.{arith}
use Rattle.std.proofs.lemmas.List.{length-map}
use Rattle.dsp_defs.specs.Formats.{close}
use Rattle.dsp_defs.specs.Signal.{sample, sum_below}
use Rattle.dsp_lanes.specs.Turns.{RisesWithin}
use Rattle.dsp_conv.specs.Sums.{correlation_terms}
use Rattle.dsp_conv.proofs.SliceSums.{correlation-part, mapped-piece, piece-long}
use Rattle.dsp_conv.proofs.sums.correlation_value.Goals as goal

pub returns-clause-value : goal.returns-clause-value
returns-clause-value g c =
    let T = g.T.Sample in
    let number = T.number in
    let a = c.args.a.now in
    let b = c.args.b.now in
    let n = c.args.n in
    let longest = c.max-longest.result in
    let start = c.min-start.result in
    let end = c.min-end.result in
    let from = c.min-from.result in
    let size = end - start in
    let la : length (map number a) ≡ length a = length-map a number in
    let lb : length (map number b) ≡ length b = length-map b number in
    let is_longest : longest ≡ max (length (map number a)) (length (map number b)) =
    omega (arith, la, lb, c.max-longest.ensures) in
    let is_end : end ≡ min (length (map number a)) (n + 1 + length (map number b) - longest) =
    omega (arith, la, lb, c.max-longest.ensures, c.min-end.ensures, c.saturating_sub.ensures) in
    let is_start : start ≡ min (n + 1 - longest) end = omega (arith, c.min-start.ensures, c.saturating_sub-2.ensures) in
    let is_from : from ≡ min (longest - 1 - n) (length (map number b)) =
    omega (arith, lb, c.min-from.ensures, c.saturating_sub-3.ensures) in
    let whole = correlation-part (map number a) (map number b) n start end from longest
    (omega (arith, la, c.requires.some)) (omega (arith, lb, c.requires.taps)) is_longest is_end is_start is_from in
    let from_size : from + size - from ≡ size = omega arith in
    let long : length (take size (drop start a)) ≡ size =
    piece-long a start size (omega (arith, is_end, is_start, la)) in
    c.closed_sum.ensures.value
    ∙ ap (close T.format)
    (ap₂ (λ xs ys. sum_below (length (take size (drop start a))) (λ k. sample xs k *ℤ sample ys k))
    (mapped-piece number a start size)
    (ap (λ m. map number (take m (drop from b))) from_size ∙ mapped-piece number b from size)
    ∙ ap (λ m. sum_below m (λ k. sample (take size (drop start (map number a))) k *ℤ sample
    (take size (drop from (map number b))) k)) long
    ∙ sym whole)

pub returns-clause-steps : goal.returns-clause-steps
returns-clause-steps g c =
    let a = c.args.a.now in
    let b = c.args.b.now in
    let n = c.args.n in
    let start = c.min-start.result in
    let end = c.min-end.result in
    let size = end - start in
    let is_end : end ≡ min (length a) (n + 1 + length b - max (length a) (length b)) =
    omega (arith, c.max-longest.ensures, c.min-end.ensures, c.saturating_sub.ensures) in
    let is_start : start ≡ min (n + 1 - max (length a) (length b)) end =
    omega (arith, c.max-longest.ensures, c.min-start.ensures, c.saturating_sub-2.ensures) in
    let terms : size ≡ correlation_terms (length a) (length b) n = omega (arith, is_end, is_start) in
    subst (λ (m : ℕ). RisesWithin c.args.steps.now c.closed_sum.new.steps m m)
    (piece-long a start size (omega (arith, is_end, is_start)) ∙ terms) c.closed_sum.ensures.steps
