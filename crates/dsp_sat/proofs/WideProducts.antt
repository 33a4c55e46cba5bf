-- The product of two samples is small enough for 64 bits.
use Rattle.std.proofs.Common.{◌-◌, ◌*◌, ◌^◌, ◌≤◌, ℤ, ◌*ℤ◌, SFits, arith, to_z, of_z, sym, subst}
use Rattle.std.specs.Prelude.{FitsSigned, nat_abs}
use Rattle.std.specs.Int.{w8, w16, w32, w64}
use Rattle.std.proofs.lemmas.Int.{unsigned_abs-mul, to_z-of_z}
use Rattle.std.proofs.Math.Nat.{mul-le-mul}
use Rattle.dsp_sat.proofs.Words.{abs_within}
use Rattle.dsp_defs.specs.Formats.{word, word_bits}
use Rattle.dsp_defs.specs.declared.format.Fmt.{Fmt}
use Rattle.dsp_defs.specs.declared.format.Fmt.TheVariants.{Q7, Q15, Q31}

pub product-small : (format : Fmt) (a b : ℤ) → FitsSigned (word format) a → FitsSigned (word format) b →
    nat_abs (a *ℤ b) ≤ 2 ^ (2 * word_bits format - 2)
product-small Q7 a b f g = rw unsigned_abs-mul (mul-le-mul (abs_within w8 a f) (abs_within w8 b g))
product-small Q15 a b f g = rw unsigned_abs-mul (mul-le-mul (abs_within w16 a f) (abs_within w16 b g))
product-small Q31 a b f g = rw unsigned_abs-mul (mul-le-mul (abs_within w32 a f) (abs_within w32 b g))

-- a number of the word is one of 32 bits
pub word-in-32 : (format : Fmt) (z : ℤ) → FitsSigned (word format) z → SFits w32 z
word-in-32 Q7 z f = record { sfits = omega (arith, f.sfits) }
word-in-32 Q15 z f = record { sfits = omega (arith, f.sfits) }
word-in-32 Q31 z f = f

-- a word of 32 bits, as one of 64 reads it
pub cast-fits : (z : ℤ) → SFits w32 z → SFits w32 (to_z w64 (of_z w64 z))
cast-fits z fits = let wide : SFits w64 z = record { sfits = omega (arith, fits.sfits) } in
    subst (λ y. SFits w32 y) (sym (to_z-of_z w64 z wide)) fits
