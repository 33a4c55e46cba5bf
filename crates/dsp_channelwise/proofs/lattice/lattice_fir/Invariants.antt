use Rattle.std.proofs.Common.{◌≡◌, ◌+◌, ◌*◌, ◌≤◌, ℤ, length, take}
use Rattle.std.specs.Prelude.{All, FitsSigned, fold, map}
use Rattle.std.specs.Int.{w16}
use Rattle.dsp_defs.specs.Lattice.{lattice_section}
use Rattle.dsp_channelwise.proofs.lattice.lattice_fir.Given as goal

-- the sections so far
abbrev pub invariant-loop-section : goal.invariant-loop-section
invariant-loop-section g l = record {
  values : l.pairs.items ≡ fold lattice_section (map (λ (a : ℤ). (a, a)) l.x) (take l.section-index l.k);
  long : length l.pairs.items ≡ length l.x;
  fits : All (λ (w : ℤ × ℤ). FitsSigned w16 w.0 × FitsSigned w16 w.1) l.pairs.items;
  products : l.steps.multiplies ≤ l.initial.steps.multiplies + l.section-index * (length l.x * 2);
}
