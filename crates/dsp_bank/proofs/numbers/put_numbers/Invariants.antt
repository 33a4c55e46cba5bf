use Rattle.std.proofs.Common.{◌≡◌, ◌<◌, ℕ, map, take}
use Rattle.std.specs.Prelude.{FitsSigned}
use Rattle.dsp_defs.specs.Formats.{word}
use Rattle.dsp_defs.specs.Signal.{sample}
use Rattle.dsp_bank.proofs.numbers.put_numbers.Given as goal

-- the numbers so far are those of the samples
abbrev pub invariant-loop-k : goal.invariant-loop-k
invariant-loop-k g l = record {
  value : take l.k l.numbers ≡ map g.T.Sample.number (take l.k l.samples);
  fits : (i : ℕ) → i < l.k → FitsSigned (word g.T.Sample.format) (sample l.numbers i);
}
