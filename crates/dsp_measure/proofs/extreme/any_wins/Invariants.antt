use Rattle.std.proofs.Common.{◌≡◌, ◌<◌, ℕ, ℤ, List, length}
use Rattle.std.specs.Prelude.{IsFalse}
use Rattle.dsp_defs.specs.Signal.{sample}
use Rattle.dsp_measure.specs.Extremes.{wins}
use Rattle.dsp_measure.proofs.extreme.any_wins.Given as goal

-- none so far, or one did
abbrev pub invariant-loop-n : goal.invariant-loop-n
invariant-loop-n g l = (y : List ℤ) → length y ≡ l.more →
    ((k : ℕ) (s : _) → k < l.more → goal.F-post g l.at k s → g.T.Sample.number s ≡ sample y k) → IsFalse l.any →
    (k : ℕ) → k < l.n → IsFalse (wins g.O.Order.least (sample y k) l.best)
