-- The blocks whose units change the rate.
use Rattle.std.specs.Prelude.{◌%◌, ◌≡◌, ◌≤◌, length}
use Rattle.dsp_filter.specs.Making.{AreTaps}
use Rattle.dsp_defs.specs.declared.format.Fmt.{Fmt}
use Rattle.dsp_defs.specs.declared.script.Block.{Block}
use Rattle.dsp_defs.specs.declared.script.Block.TheVariants.{Decimate, Interpolate}

-- ---- decimators

-- the block is a decimator that no maker refuses
abbrev pub IsDecimateIn : Fmt → Block → Type 0
IsDecimateIn format (Decimate factor taps) = (1 ≤ factor) × AreTaps format taps
IsDecimateIn format block = ⊥

-- ---- interpolators

-- the block is an interpolator that no maker refuses
abbrev pub IsInterpolateIn : Fmt → Block → Type 0
IsInterpolateIn format (Interpolate factor taps) = (1 ≤ factor) × (factor ≤ 255) × (length taps % factor ≡ 0) ×
    AreTaps format taps
IsInterpolateIn format block = ⊥
