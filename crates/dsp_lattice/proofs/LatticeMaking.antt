-- What a maker of a lattice knows behind its tests.
use Rattle.std.proofs.Common.{◌≡◌, ℕ, ◌+◌, ◌≤◌, None, arith}
use Rattle.std.proofs.lemmas.Grind.{common_steps}
use Rattle.dsp_defs.specs.declared.limits.TheConstants.{MAX_LATTICE_SECTIONS}
use Rattle.dsp_lattice.specs.Making.{ladder_fault, reflections_fault}

pub reflections-within : (count : ℕ) → reflections_fault count ≡ None → count ≤ MAX_LATTICE_SECTIONS
reflections-within count none = grind (arith, common_steps)

pub ladder-within : (sections count : ℕ) → ladder_fault sections count ≡ None → count ≡ sections + 1
ladder-within sections count none = grind (arith, common_steps)
