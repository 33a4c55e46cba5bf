use Rattle.std.proofs.Common.{◌≡◌, ◌∙◌, ap, ap₂, sym, ◌+◌, ◌-◌, ◌*ℤ◌, ◌≤◌, min, length, map, take, drop, reverse, arith}
use Rattle.std.proofs.lemmas.List.{length-map}
use Rattle.dsp_defs.specs.Formats.{close}
use Rattle.dsp_defs.specs.Signal.{sample, sum_below}
use Rattle.dsp_conv.proofs.SliceSums.{convolution-part, mapped-piece, piece-long}
use Rattle.dsp_conv.proofs.sums.convolution_value.Goals as goal

pub returns-clause-value : goal.returns-clause-value
returns-clause-value g c =
    let T = g.T.Sample in
    let number = T.number in
    let a = c.args.a.now in
    let b = c.args.b.now in
    let n = c.args.n in
    let start = c.saturating_sub-start.result in
    let end = c.min-end.result in
    let size = end - start in
    let la : length (map number a) ≡ length a = length-map a number in
    let lb : length (map number b) ≡ length b = length-map b number in
    let is_start : start ≡ n + 1 - length (map number a) = omega (arith, la, c.saturating_sub-start.ensures) in
    let is_end : end ≡ min (length (map number b)) (n + 1) = omega (arith, lb, c.min-end.ensures) in
    let order : start ≤ end = omega (arith, c.requires.inside, c.saturating_sub-start.ensures, c.min-end.ensures) in
    let whole = convolution-part (map number a) (map number b) n start end (omega (arith, la, lb, c.requires.inside))
    is_start is_end in
    let back_size : n + 1 - start - (n + 1 - end) ≡ size = omega (arith, c.min-end.ensures, order) in
    let long : length (take size (drop start b)) ≡ size =
    piece-long b start size (omega (arith, order, c.min-end.ensures)) in
    c.closed_backwards.ensures.value
    ∙ ap (close T.format)
    (ap₂ (λ xs ys. sum_below (length (take size (drop start b))) (λ k. sample xs k *ℤ sample (reverse ys) k))
    (mapped-piece number b start size)
    (ap (λ m. map number (take m (drop (n + 1 - end) a))) back_size ∙ mapped-piece number a (n + 1 - end) size)
    ∙ ap (λ m. sum_below m (λ k. sample (take size (drop start (map number b))) k *ℤ sample
    (reverse (take size (drop (n + 1 - end) (map number a)))) k)) long
    ∙ sym whole)
