-- How large products of the parts of complex numbers are, shifted too.
use Rattle.std.proofs.Common.{◌≡◌, ◌≢◌, ap, refl, ℕ, ◌+◌, ◌-◌, ◌*◌, ◌^◌, ◌<◌, ◌≤◌, ℤ, ◌+ℤ◌, ◌*ℤ◌}
use Rattle.std.proofs.Common.{arith, lit<, nat_abs, SFits, to_z, of_z}
use Rattle.std.specs.Int.{w128}
use Rattle.std.proofs.lemmas.Int.{to_z-of_z}
use Rattle.dsp_defs.specs.Numbers.{◌>>◌}
use Rattle.dsp_defs.specs.Formats.{word_bits}
use Rattle.dsp_defs.specs.Complex.{cmplx_mag_squared, product_shift}
use Rattle.dsp_defs.specs.declared.format.Fmt.{Fmt}
use Rattle.dsp_defs.specs.declared.format.Fmt.TheVariants.{Q7, Q15, Q31}
use Rattle.dsp_sat.proofs.Words.{shr-small}

-- so many products of two samples, shifted together
pub products-small : (format : Fmt) (z : ℤ) (m : ℕ) → nat_abs z ≤ m * 2 ^ (2 * word_bits format - 2) →
    nat_abs (z >> product_shift format) ≤ m * 2 ^ (word_bits format - 3)
products-small Q7 z m h = shr-small z 17 (m * 32) (lit< tt) (omega (arith, h))
products-small Q15 z m h = shr-small z 17 (m * 8192) (lit< tt) (omega (arith, h))
products-small Q31 z m h = shr-small z 33 (m * 536870912) (lit< tt) (omega (arith, h))

-- they fit 128 bits
pub products-fit : (format : Fmt) → 2 ^ (2 * word_bits format - 2) ≤ 2 ^ 125
products-fit Q7 = omega arith
products-fit Q15 = omega arith
products-fit Q31 = omega arith

pub shifted-fit : (format : Fmt) → 2 ^ (word_bits format - 3) ≤ 2 ^ 125
shifted-fit Q7 = omega arith
shifted-fit Q15 = omega arith
shifted-fit Q31 = omega arith

-- the sum of two numbers that are read at 128 bits
pub sum-small : (a b s : ℤ) (m : ℕ) → SFits w128 a → SFits w128 b →
    nat_abs s ≤ nat_abs (to_z w128 (of_z w128 a)) + nat_abs (to_z w128 (of_z w128 b)) → nat_abs a ≤ m → nat_abs b ≤ m →
    nat_abs s ≤ 2 * m
sum-small a b s m fits_a fits_b small small_a small_b =
    omega (arith, ap nat_abs (to_z-of_z w128 a fits_a), ap nat_abs (to_z-of_z w128 b fits_b))

-- where the sum of the squares is shifted
pub sum-shifted : (format : Fmt) (a b : ℤ) → format ≢ Q31 →
    (a *ℤ a +ℤ b *ℤ b >> product_shift format) ≡ cmplx_mag_squared format a b
sum-shifted Q7 a b not = refl
sum-shifted Q15 a b not = refl
sum-shifted Q31 a b not = absurd (not refl)

pub ruleset parts = (to_z-of_z, shifted-fit, products-fit)
