use Rattle.std.proofs.Common.{◌≡◌, ◌*◌, ◌<◌, ℕ, ℤ, List}
use Rattle.dsp_defs.specs.Counts.{Rises}
use Rattle.dsp_defs.specs.Formats.{accumulator}
use Rattle.dsp_measure.proofs.SumLaws.{sum_with, real_terms, imaginary_terms, AreAt}
use Rattle.dsp_measure.proofs.complex_products.add_complex.Given as goal

abbrev pub invariant-loop-n : goal.invariant-loop-n
invariant-loop-n g l = record {
  sums : (a b c d : List ℤ) → ((k : ℕ) (s : _) → k < l.count → goal.F-post g l.at k s →
      AreAt (g.T.Sample.number s.0) (g.T.Sample.number s.1) (g.T.Sample.number s.2) (g.T.Sample.number s.3) a b c d k) →
      (g.T.Sample.total l.sums.0 ≡ sum_with (accumulator g.T.Sample.format) l.fn.start.0 l.n
      (real_terms g.T.Sample.format a b c d)) ×
      (g.T.Sample.total l.sums.1 ≡ sum_with (accumulator g.T.Sample.format) l.fn.start.1 l.n
      (imaginary_terms g.T.Sample.format a b c d));
  steps : Rises l.initial.steps l.steps (4 * l.n) (4 * l.n);
}
