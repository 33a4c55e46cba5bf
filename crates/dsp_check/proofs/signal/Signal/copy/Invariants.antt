use Rattle.std.proofs.Common.{◌≡◌, take}
use Rattle.dsp_check.proofs.signal.Signal.copy.Given as goal

-- the channels so far
abbrev pub invariant-loop-c : goal.invariant-loop-c
invariant-loop-c l = l.channels.items ≡ take l.c l.self
