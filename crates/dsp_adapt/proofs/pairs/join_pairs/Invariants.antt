use Rattle.std.proofs.Common.{◌≡◌, ◌+◌, ◌*◌, ◌<◌, ℕ, map}
use Rattle.std.specs.Prelude.{FitsSigned}
use Rattle.dsp_defs.specs.Formats.{word}
use Rattle.dsp_defs.specs.Signal.{sample}
use Rattle.dsp_adapt.proofs.pairs.join_pairs.Given as goal

-- the samples so far are written
abbrev pub invariant-loop-n : goal.invariant-loop-n
invariant-loop-n g l = record {
  left : (k : ℕ) → k < l.n → sample l.out (k * 2) ≡ sample (map g.T.Sample.number l.first) k;
  right : (k : ℕ) → k < l.n → sample l.out (k * 2 + 1) ≡ sample (map g.T.Sample.number l.second) k;
  fits : (k : ℕ) → k < l.n * 2 → FitsSigned (word g.T.Sample.format) (sample l.out k);
}
