use Rattle.std.proofs.Common.{◌≡◌, ◌<◌, ℕ, map}
use Rattle.dsp_defs.specs.Signal.{sample}
use Rattle.dsp_lattice.proofs.numbers.read_numbers.Given as goal

-- the numbers so far stand in the samples
abbrev pub invariant-loop-k : goal.invariant-loop-k
invariant-loop-k g l = (i : ℕ) → i < l.k → sample (map g.T.Sample.number l.samples) i ≡ sample l.numbers i
