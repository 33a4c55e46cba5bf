-- Samples of 8 bits, packed.
use Rattle.std.specs.Prelude.{◌≡◌, ◌+◌, ◌^◌, ◌%◌, ℤ, [], ◌∷◌}
use Rattle.std.specs.Int.{cast_unsigned}
use Rattle.dsp_defs.specs.Numbers.{w32}
use Rattle.dsp_defs.specs.Bytes.{IsValue, bytes_of}
use Rattle.dsp_defs.specs.declared.format.Coding.{Coding}

-- a sample has one byte, the last of the word of the sample and so much more
abbrev pub IsLastByte : Coding → ℤ → Type 0
IsLastByte coding above = (x : ℤ) → IsValue coding x → bytes_of coding x ≡
    (cast_unsigned w32 x + cast_unsigned w32 above) % 2 ^ 32 % 2 ^ 8 ∷ []
