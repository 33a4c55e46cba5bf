use Rattle.std.proofs.Common.{◌≡◌, ◌<◌, ℕ, ℤ, List}
use Rattle.dsp_defs.specs.Counts.{Rises}
use Rattle.dsp_defs.specs.Formats.{accumulator}
use Rattle.dsp_defs.specs.Signal.{sample}
use Rattle.dsp_measure.proofs.SumLaws.{sum_with, products_of}
use Rattle.dsp_measure.proofs.products.add_products.Given as goal

abbrev pub invariant-loop-n : goal.invariant-loop-n
invariant-loop-n g l = record {
  sum : (x y : List ℤ) → ((k : ℕ) (s : _) → k < l.count → goal.F-post g l.at k s →
      (g.T.Sample.number s.0 ≡ sample x k) × (g.T.Sample.number s.1 ≡ sample y k)) →
      g.T.Sample.total l.sum ≡
      sum_with (accumulator g.T.Sample.format) l.fn.start l.n (products_of g.T.Sample.format x y);
  steps : Rises l.initial.steps l.steps l.n l.n;
}
