-- The faults of what a lattice is made of.
use Rattle.std.specs.Prelude.{ℕ, ◌+◌, Option, Some, None, nat_le, nat_eq, ◌&&◌, if◌then◌else◌}
use Rattle.std.specs.Option.{option_or}
use Rattle.dsp_filter.specs.Making.{block_fault}
use Rattle.dsp_defs.specs.declared.limits.TheConstants.{MAX_LATTICE_SECTIONS}
use Rattle.dsp_defs.specs.declared.fault.MakeFault.{MakeFault}
use Rattle.dsp_defs.specs.declared.fault.MakeFault.TheVariants.{Length}

-- the fault of so many reflection coefficients
abbrev pub reflections_fault : ℕ → Option MakeFault
reflections_fault count = if nat_le 1 count && nat_le count MAX_LATTICE_SECTIONS then None else Some (Length count 1)

-- the fault of so many ladder coefficients, for so many sections
abbrev pub ladder_fault : ℕ → ℕ → Option MakeFault
ladder_fault sections count = if nat_eq count (sections + 1) then None else Some (Length count (sections + 1))

-- the first fault of a lattice without feedback
abbrev pub fir_lattice_fault : ℕ → ℕ → Option MakeFault
fir_lattice_fault sections block = option_or (reflections_fault sections) (block_fault block)

-- the first fault of a lattice with feedback
abbrev pub iir_lattice_fault : ℕ → ℕ → ℕ → Option MakeFault
iir_lattice_fault sections ladder block = option_or (reflections_fault sections)
    (option_or (ladder_fault sections ladder) (block_fault block))
