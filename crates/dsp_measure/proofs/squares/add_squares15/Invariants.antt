use Rattle.std.proofs.Common.{◌≡◌, ◌*◌}
use Rattle.std.specs.Int.{w64}
use Rattle.dsp_defs.specs.Counts.{Rises}
use Rattle.dsp_defs.specs.declared.format.Fmt.TheVariants.{Q15}
use Rattle.dsp_measure.proofs.SumLaws.{sum_with, products_of}
use Rattle.dsp_measure.proofs.squares.add_squares15.Given as goal

-- the pairs so far are in the sum
abbrev pub invariant-loop-n : goal.invariant-loop-n
invariant-loop-n g l = record {
  sum : l.sum ≡ sum_with w64 l.fn.start (l.n * 2) (products_of Q15 l.numbers l.numbers);
  steps : Rises l.fn.steps l.steps (l.n * 2) (l.n * 2);
}
