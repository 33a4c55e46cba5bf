use Rattle.std.proofs.Common.{◌≡◌, ◌+◌, ◌*◌, ◌≤◌, length}
use Rattle.std.specs.Prelude.{All, FitsSigned, fold}
use Rattle.dsp_defs.specs.Formats.{word}
use Rattle.dsp_defs.specs.Biquad.{biquad, biquad_section, sections}
use Rattle.dsp_defs.specs.Cost.{section_count}
use Rattle.dsp_channelwise.proofs.cascade.biquad.Given as goal

-- the other sections make of the signal so far what all make of x
abbrev pub invariant-loop-section : goal.invariant-loop-section
invariant-loop-section g l = record {
  long : length l.y.items ≡ length l.x;
  fits : All (FitsSigned (word l.format)) l.y.items;
  rest : fold (biquad_section l.format l.post_shift) l.y.items (sections l.format l.numbers)
      ≡ biquad l.format l.post_shift l.coefficients l.x;
  products : l.steps.multiplies + length l.x * (5 * section_count l.format l.numbers)
      ≤ l.initial.steps.multiplies + length l.x * (5 * section_count l.format l.coefficients);
}

abbrev pub decreases-loop-section : goal.decreases-loop-section
decreases-loop-section g l = section_count l.format l.numbers
