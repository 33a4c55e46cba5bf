-- A number that is saturated.
use Rattle.std.proofs.Common.{ℤ, pos, negsuc, arith, FitsSigned}
use Rattle.dsp_defs.specs.Formats.{word, word_bits}
use Rattle.dsp_defs.specs.Numbers.{saturate}
use Rattle.dsp_defs.specs.declared.format.Fmt.{Fmt}
use Rattle.dsp_defs.specs.declared.format.Fmt.TheVariants.{Q7, Q15, Q31}

-- it is one of the format
pub saturated : (format : Fmt) (z : ℤ) → FitsSigned (word format) (saturate (word_bits format) z)
saturated Q7 (pos n) = record { sfits = omega arith }
saturated Q7 (negsuc n) = record { sfits = omega arith }
saturated Q15 (pos n) = record { sfits = omega arith }
saturated Q15 (negsuc n) = record { sfits = omega arith }
saturated Q31 (pos n) = record { sfits = omega arith }
saturated Q31 (negsuc n) = record { sfits = omega arith }
