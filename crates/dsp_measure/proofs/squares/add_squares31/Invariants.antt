use Rattle.std.proofs.Common.{◌≡◌}
use Rattle.std.specs.Int.{w64}
use Rattle.dsp_defs.specs.Counts.{Rises}
use Rattle.dsp_defs.specs.declared.format.Fmt.TheVariants.{Q31}
use Rattle.dsp_measure.proofs.SumLaws.{sum_with, products_of}
use Rattle.dsp_measure.proofs.squares.add_squares31.Given as goal

-- the squares so far are in the sum
abbrev pub invariant-loop-x : goal.invariant-loop-x
invariant-loop-x g l = record {
  sum : l.sum ≡ sum_with w64 l.fn.start l.x-index (products_of Q31 l.numbers l.numbers);
  steps : Rises l.fn.steps l.steps l.x-index l.x-index;
}
