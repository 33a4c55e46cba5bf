-- Coefficients that have the post shift in them.
use Rattle.std.specs.Prelude.{ℕ, ◌^◌, ◌≡◌, ℤ, pos, ◌*ℤ◌, FitsSigned}
use Rattle.dsp_defs.specs.Formats.{word}
use Rattle.dsp_defs.specs.Numbers.{◌>>◌}
use Rattle.dsp_defs.specs.declared.format.Fmt.{Fmt}

-- a coefficient of the format times 2^p
abbrev pub IsScaled : Fmt → ℕ → ℤ → Type 0
IsScaled format p number = FitsSigned (word format) (number >> p) × (number ≡ (number >> p) *ℤ pos (2 ^ p))
