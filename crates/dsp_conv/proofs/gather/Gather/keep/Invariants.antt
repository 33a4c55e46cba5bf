use Rattle.std.proofs.Common.{◌≡◌, ◌<◌, ℕ}
use Rattle.dsp_defs.specs.Signal.{sample}
use Rattle.dsp_conv.proofs.gather.Gather.keep.Given as goal

-- the numbers so far are written
abbrev pub invariant-loop-k : goal.invariant-loop-k
invariant-loop-k g l = (i : ℕ) → i < l.k → sample l.out i ≡ sample l.self i
