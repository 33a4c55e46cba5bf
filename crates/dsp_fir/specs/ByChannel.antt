-- The blocks whose filters are FIR and sparse filters.
use Rattle.std.specs.Prelude.{◌≡◌, ◌≤◌, pos, ◌≤ℤ◌, length, All}
use Rattle.dsp_defs.specs.declared.limits.TheConstants.{MAX_DELAY}
use Rattle.dsp_filter.specs.Making.{AreTaps}
use Rattle.dsp_defs.specs.declared.format.Fmt.{Fmt}
use Rattle.dsp_defs.specs.declared.script.Block.{Block}
use Rattle.dsp_defs.specs.declared.script.Block.TheVariants.{Fir, Sparse}

-- the block is a FIR or sparse filter that no maker refuses
abbrev pub IsWindowIn : Fmt → Block → Type 0
IsWindowIn format (Fir taps) = AreTaps format taps
IsWindowIn format (Sparse taps delays) =
    (2 ≤ length taps) × (length delays ≡ length taps) × AreTaps format taps × All (λ d. pos 0 ≤ℤ d) delays ×
    All (λ d. d ≤ℤ pos MAX_DELAY) delays
IsWindowIn format block = ⊥
