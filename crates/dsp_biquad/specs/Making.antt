-- The faults of what a cascade is made of.
use Rattle.std.specs.Prelude.{ℕ, ◌*◌, pos, Option, Some, None, nat_le, if◌then◌else◌}
use Rattle.std.specs.Option.{option_or}
use Rattle.dsp_filter.specs.Making.{block_fault, multiple_fault}
use Rattle.dsp_defs.specs.declared.limits.TheConstants.{MAX_SECTIONS}
use Rattle.dsp_defs.specs.declared.fault.MakeFault.{MakeFault}
use Rattle.dsp_defs.specs.declared.fault.MakeFault.TheVariants.{Range}

-- the fault of so many numbers, for sections of `size`
abbrev pub coefficients_fault : ℕ → ℕ → Option MakeFault
coefficients_fault size count = multiple_fault (MAX_SECTIONS * size) size count

-- the fault of such a post shift
abbrev pub shift_fault : ℕ → ℕ → Option MakeFault
shift_fault greatest post_shift = if nat_le post_shift greatest then None else Some (Range (pos post_shift))

-- the first fault
abbrev pub cascade_fault : ℕ → ℕ → ℕ → ℕ → ℕ → Option MakeFault
cascade_fault size greatest count post_shift block = option_or (coefficients_fault size count)
    (option_or (shift_fault greatest post_shift) (block_fault block))
