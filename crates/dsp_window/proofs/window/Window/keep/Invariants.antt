use Rattle.std.proofs.Common.{◌≡◌, ◌<◌, ℕ}
use Rattle.dsp_defs.specs.Signal.{sample}
use Rattle.dsp_window.specs.Rolling.{last_samples}
use Rattle.dsp_window.proofs.window.Window.keep.Given as goal

-- the numbers so far are written
abbrev pub invariant-loop-k : goal.invariant-loop-k
invariant-loop-k g l = (i : ℕ) → i < l.k → sample l.out i ≡ sample (last_samples l.self.past l.self.samples) i
