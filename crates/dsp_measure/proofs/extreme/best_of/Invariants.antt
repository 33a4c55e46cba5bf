use Rattle.std.proofs.Common.{◌≡◌, ◌+◌, ◌<◌, ℕ, ℤ, List, ◌++◌, length, take}
use Rattle.dsp_defs.specs.Signal.{sample}
use Rattle.dsp_measure.specs.Extremes.{extreme, IsFound}
use Rattle.dsp_measure.proofs.extreme.best_of.Given as goal

abbrev pub invariant-loop-n : goal.invariant-loop-n
invariant-loop-n g l = record {
  found : IsFound g.T.Sample.format l.best (l.count + l.n);
  stands : (x y : List ℤ) → l.fn.found ≡ extreme g.O.Order.least x → l.count ≡ length x → length y ≡ l.more →
      ((k : ℕ) (s : _) → k < l.more → goal.F-post g l.at k s → g.T.Sample.number s ≡ sample y k) →
      l.best ≡ extreme g.O.Order.least (x ++ take l.n y);
}
