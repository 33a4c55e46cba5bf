use Rattle.std.proofs.Common.{◌∙◌, refl, sym, ap, map, ◌/◌, ◌+◌, ◌*◌, ◌<◌, ◌≡◌, ℕ, ℤ, List, get_or, length, arith}
use Rattle.std.proofs.lemmas.List.{length-map}
use Rattle.dsp_defs.specs.Signal.{sample}
use Rattle.dsp_defs.proofs.SumLemmas.{sample-map}
use Rattle.dsp_measure.specs.Sums.{parts_in}
use Rattle.dsp_measure.proofs.SumLaws.{sample-part}
use Rattle.dsp_unit.proofs.ChannelFrames.{length-samples_in}
use Rattle.dsp_measure.proofs.complex_products.add_complex_slices.Goals as goal

-- a sample at its place is a number of its part
part : {X : Type 0} → (f : X → ℤ) (xs : List X) (count n p place : ℕ) (x : X) → length xs / 2 ≡ count → n < count →
    p < 2 → place ≡ n * 2 + p → x ≡ get_or xs place x → f x ≡ sample (parts_in (map f xs) p) n
part f xs count n p place x size less inside at read =
    sample-part (map f xs) count p n (f x) (ap (λ k. k / 2) (length-map xs f) ∙ size) less
    (sample-map f xs place x (omega (arith, size, less, inside, at)) read ∙ ap (sample (map f xs)) at)

pub returns-clause-sums : goal.returns-clause-sums
returns-clause-sums g c =
    let N = g.T.Sample.number in
    let a = c.args.a.now in
    let b = c.args.b.now in
    let count = length a / 2 in
    let same : length b / 2 ≡ count = ap (λ k. k / 2) (sym c.requires.same) in
    c.add_complex.ensures.sums (parts_in (map N a) 0) (parts_in (map N a) 1) (parts_in (map N b) 0)
    (parts_in (map N b) 1)
    (length-samples_in 2 (length (map N a) / 2) (map N a) 0 ∙ ap (λ k. k / 2) (length-map a N))
    (λ n s less is. (
      part N a count n 0 (n * 2) s.0 refl less (omega arith) (omega arith) is.0,
      part N a count n 1 (n * 2 + 1) s.1 refl less (omega arith) refl is.1.0,
      part N b count n 0 (n * 2) s.2 same less (omega arith) (omega arith) is.1.1.0,
      part N b count n 1 (n * 2 + 1) s.3 same less (omega arith) refl is.1.1.1,
    ))
