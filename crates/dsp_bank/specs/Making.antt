-- The faults of what a bank is made of.
use Rattle.std.specs.Prelude.{ℕ, pos, Option, Some, None, nat_le, ◌&&◌, if◌then◌else◌}
use Rattle.std.specs.Option.{option_or}
use Rattle.dsp_defs.specs.declared.limits.TheConstants.{MAX_CHANNELS}
use Rattle.dsp_defs.specs.declared.fault.MakeFault.{MakeFault}
use Rattle.dsp_defs.specs.declared.fault.MakeFault.TheVariants.{Range}
use Rattle.dsp_filter.specs.Making.{block_fault}
use Rattle.dsp_biquad.specs.Making.{coefficients_fault, shift_fault}

-- the fault of so many channels
abbrev pub channels_fault : ℕ → Option MakeFault
channels_fault channels = if nat_le 1 channels && nat_le channels MAX_CHANNELS then None else Some
    (Range (pos channels))

-- the first fault
abbrev pub bank_fault : ℕ → ℕ → ℕ → ℕ → ℕ → ℕ → Option MakeFault
bank_fault size greatest count post_shift channels block =
    option_or (coefficients_fault size count) (option_or (shift_fault greatest post_shift)
    (option_or (channels_fault channels) (block_fault block)))
