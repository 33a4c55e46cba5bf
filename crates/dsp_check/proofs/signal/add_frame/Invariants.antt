use Rattle.std.proofs.Common.{◌≡◌, ◌<◌, ◌≤◌, ◌++◌, ◌∷◌, [], ℕ, length, get_or}
use Rattle.dsp_defs.specs.Signal.{sample}
use Rattle.dsp_check.proofs.signal.add_frame.Given as goal

-- the channels before this one have their sample, and the others are as they were
abbrev pub invariant-loop-c : goal.invariant-loop-c
invariant-loop-c l = record {
  size : length l.channels ≡ length l.fn.channels;
  before : (k : ℕ) → k < l.c → get_or l.channels k [] ≡ get_or l.fn.channels k [] ++ sample l.frame k ∷ [];
  behind : (k : ℕ) → l.c ≤ k → get_or l.channels k [] ≡ get_or l.fn.channels k [];
}
