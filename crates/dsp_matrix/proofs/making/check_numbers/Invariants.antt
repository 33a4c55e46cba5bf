use Rattle.std.proofs.Common.{◌≡◌, drop}
use Rattle.dsp_matrix.specs.Faults.{numbers_fault}
use Rattle.dsp_matrix.proofs.making.check_numbers.Given as goal

-- the numbers so far have no fault
abbrev pub invariant-loop-number : goal.invariant-loop-number
invariant-loop-number g l = numbers_fault g.T.Sample.format (drop l.number-index l.numbers) ≡ numbers_fault
    g.T.Sample.format l.numbers
