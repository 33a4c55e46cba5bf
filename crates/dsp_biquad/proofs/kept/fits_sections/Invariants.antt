use Rattle.std.proofs.Common.{ℕ, ◌<◌}
use Rattle.dsp_unit.specs.Channels.{numbers_in}
use Rattle.dsp_defs.specs.Kept.{Each, IsOfKind}
use Rattle.dsp_biquad.proofs.kept.fits_sections.Given as goal

-- the numbers of the sections so far fit
abbrev pub invariant-loop-k : goal.invariant-loop-k
invariant-loop-k g l = (j : ℕ) → j < l.k → Each IsOfKind g.S.CascadeSection.kinds (numbers_in 4 l.numbers j)
