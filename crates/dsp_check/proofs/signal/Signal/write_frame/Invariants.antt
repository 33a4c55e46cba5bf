use Rattle.std.proofs.Common.{◌≡◌, map, take}
use Rattle.dsp_defs.specs.Signal.{sample}
use Rattle.dsp_check.proofs.signal.Signal.write_frame.Given as goal

-- the samples so far
abbrev pub invariant-loop-c : goal.invariant-loop-c
invariant-loop-c l = take l.c l.frame ≡ map (λ samples. sample samples l.n) (take l.c l.self)
