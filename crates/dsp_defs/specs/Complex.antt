-- The complex blocks: the frame given as a function of the frame taken. (a, b) stands for a + ib.
use Rattle.std.specs.Prelude.{ℕ, ℤ, ◌+ℤ◌, ◌-ℤ◌, ◌*ℤ◌, neg_ℤ}
use Rattle.dsp_defs.specs.Numbers.{◌>>◌, saturate}
use Rattle.dsp_defs.specs.Formats.{word_bits}
use Rattle.dsp_defs.specs.declared.format.Fmt.{Fmt}
use Rattle.dsp_defs.specs.declared.format.Fmt.TheVariants.{Q31}

-- a, sat_n(-b)
abbrev pub cmplx_conj : Fmt → ℤ → ℤ → ℤ × ℤ
cmplx_conj format a b = (a, saturate (word_bits format) (neg_ℤ b))

-- how far a product of two components is shifted: 17 in Q15, 33 in Q31
abbrev pub product_shift : Fmt → ℕ
product_shift Q31 = 33
product_shift format = 17

-- (a*c >> w) - (b*d >> w), (a*d >> w) + (b*c >> w): each product is shifted first
abbrev pub cmplx_mult : Fmt → ℤ → ℤ → ℤ → ℤ → ℤ × ℤ
cmplx_mult format a b c d =
    let w = product_shift format in
    ((a *ℤ c >> w) -ℤ (b *ℤ d >> w), (a *ℤ d >> w) +ℤ (b *ℤ c >> w))

-- sat_16(a*r >> 15), sat_16(b*r >> 15)
abbrev pub cmplx_mult_real : ℤ → ℤ → ℤ → ℤ × ℤ
cmplx_mult_real a b r = (saturate 16 (a *ℤ r >> 15), saturate 16 (b *ℤ r >> 15))

-- (a*a + b*b) >> 17 in Q15, and (a*a >> 33) + (b*b >> 33) in Q31
abbrev pub cmplx_mag_squared : Fmt → ℤ → ℤ → ℤ
cmplx_mag_squared Q31 a b = (a *ℤ a >> 33) +ℤ (b *ℤ b >> 33)
cmplx_mag_squared format a b = a *ℤ a +ℤ b *ℤ b >> 17
