use Rattle.std.proofs.Common.{◌≡◌, take, All, FitsSigned}
use Rattle.dsp_defs.specs.Numbers.{w32}
use Rattle.dsp_program_tests.proofs.chain.words.Given as goal

abbrev pub invariant-loop-number : goal.invariant-loop-number
invariant-loop-number g l = (l.words.items ≡ take l.number-index l.numbers) × All (FitsSigned w32) l.words.items
