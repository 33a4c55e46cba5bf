use Rattle.std.proofs.Common.{◌≡◌, take}
use Rattle.dsp_fir.specs.Delays.{greatest_delay}
use Rattle.dsp_fir.proofs.making.greatest.Given as goal

-- the greatest delay so far
abbrev pub invariant-loop-delay : goal.invariant-loop-delay
invariant-loop-delay l = l.greatest ≡ greatest_delay (take l.delay-index l.delays)
