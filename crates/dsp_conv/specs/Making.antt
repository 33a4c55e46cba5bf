-- The faults of what a partial convolution is made of.
use Rattle.std.specs.Prelude.{ℕ, ◌^◌, pos, Option, Some, None, nat_le, nat_lt, ◌&&◌, if◌then◌else◌}
use Rattle.std.specs.Option.{option_or}
use Rattle.dsp_filter.specs.Making.{block_fault, taps_fault}
use Rattle.dsp_defs.specs.declared.fault.MakeFault.{MakeFault}
use Rattle.dsp_defs.specs.declared.fault.MakeFault.TheVariants.{Range}

-- the fault of such a first index
abbrev pub first_fault : ℕ → Option MakeFault
first_fault first = if nat_lt first (2 ^ 32) then None else Some (Range (pos first))

-- the fault of so many values
abbrev pub count_fault : ℕ → Option MakeFault
count_fault count = if nat_le 1 count && nat_lt count (2 ^ 32) then None else Some (Range (pos count))

-- the first fault
abbrev pub partial_fault : ℕ → ℕ → ℕ → ℕ → Option MakeFault
partial_fault taps first count block = option_or (taps_fault taps)
    (option_or (first_fault first) (option_or (count_fault count) (block_fault block)))
