use Rattle.std.proofs.Common.{◌≡◌, [], replicate}
use Rattle.dsp_check.proofs.signal.Signal.new.Given as goal

-- the channels so far
abbrev pub invariant-loop : goal.invariant-loop
invariant-loop l = l.empty.items ≡ replicate l.counter []
