use Rattle.std.proofs.Common.{◌≡◌, map, take, pos}
use Rattle.dsp_fir.proofs.making.delays_of.Given as goal

-- the delays so far are the numbers so far
abbrev pub invariant-loop-number : goal.invariant-loop-number
invariant-loop-number l = map pos l.delays.items ≡ take l.number-index l.numbers
