use Rattle.std.proofs.Common.{◌≡◌, map, take}
use Rattle.dsp_lattice.proofs.numbers.write_numbers.Given as goal

-- the numbers so far are written
abbrev pub invariant-loop-k : goal.invariant-loop-k
invariant-loop-k g l = take l.k l.out ≡ map g.T.Sample.number (take l.k l.samples)
