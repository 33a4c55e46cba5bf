use Rattle.std.proofs.Common.{◌≡◌, drop}
use Rattle.dsp_fir.specs.Delays.{delays_fault}
use Rattle.dsp_fir.proofs.making.check_delays.Given as goal

-- no delay so far is too great
abbrev pub invariant-loop-delay : goal.invariant-loop-delay
invariant-loop-delay l = delays_fault l.delays ≡ delays_fault (drop l.delay-index l.delays)
