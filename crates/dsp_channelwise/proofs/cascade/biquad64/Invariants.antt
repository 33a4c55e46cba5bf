use Rattle.std.proofs.Common.{◌≡◌, ◌+◌, ◌*◌, ◌≤◌, length}
use Rattle.std.specs.Prelude.{All, FitsSigned, fold}
use Rattle.std.specs.Int.{w32}
use Rattle.dsp_defs.specs.Biquad.{biquad64, biquad64_section, sections}
use Rattle.dsp_defs.specs.Cost.{section_count}
use Rattle.dsp_defs.specs.declared.format.Fmt.TheVariants.{Q31}
use Rattle.dsp_channelwise.proofs.cascade.biquad64.Given as goal

-- the other sections make of the signal so far what all make of x
abbrev pub invariant-loop-section : goal.invariant-loop-section
invariant-loop-section g l = record {
  long : length l.y.items ≡ length l.x;
  fits : All (FitsSigned w32) l.y.items;
  rest : fold (biquad64_section l.post_shift) l.y.items (sections Q31 l.numbers)
      ≡ biquad64 l.post_shift l.coefficients l.x;
  products : l.steps.multiplies + length l.x * (5 * section_count Q31 l.numbers)
      ≤ l.initial.steps.multiplies + length l.x * (5 * section_count Q31 l.coefficients);
}

abbrev pub decreases-loop-section : goal.decreases-loop-section
decreases-loop-section g l = section_count Q31 l.numbers
