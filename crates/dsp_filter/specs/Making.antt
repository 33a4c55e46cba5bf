-- The faults of what every filter is made of.
use Rattle.std.specs.Prelude.{ℕ, ◌%◌, ◌≤◌, ℤ, pos, List, length, All, FitsSigned, Option, Some, None, nat_eq, nat_le}
use Rattle.std.specs.Prelude.{◌&&◌, if◌then◌else◌}
use Rattle.std.specs.Option.{option_or}
use Rattle.dsp_defs.specs.Formats.{word}
use Rattle.dsp_defs.specs.declared.format.Fmt.{Fmt}
use Rattle.dsp_defs.specs.declared.limits.TheConstants.{MAX_SAMPLES, MAX_TAPS}
use Rattle.dsp_defs.specs.declared.fault.MakeFault.{MakeFault}
use Rattle.dsp_defs.specs.declared.fault.MakeFault.TheVariants.{Length, Range}

-- the fault of so many taps
abbrev pub taps_fault : ℕ → Option MakeFault
taps_fault taps = if nat_le 1 taps && nat_le taps MAX_TAPS then None else Some (Length taps 1)

-- the fault of so many numbers, which come in groups of `factor`
abbrev pub multiple_fault : ℕ → ℕ → ℕ → Option MakeFault
multiple_fault most factor count =
    if nat_le 1 count && nat_le count most && nat_eq (count % factor) 0 then None else Some (Length count factor)

-- the fault of such a greatest block length
abbrev pub block_fault : ℕ → Option MakeFault
block_fault block = if nat_le 1 block && nat_le block MAX_SAMPLES then None else Some (Range (pos block))

-- the first fault of so many taps and such a block
abbrev pub filter_fault : ℕ → ℕ → Option MakeFault
filter_fault taps block = option_or (taps_fault taps) (block_fault block)

-- ---- what no maker refuses

-- the taps of a filter: 1..MAX_TAPS numbers of the format
abbrev pub AreTaps : Fmt → List ℤ → Type 0
AreTaps format taps = (1 ≤ length taps) × (length taps ≤ MAX_TAPS) × All (FitsSigned (word format)) taps
