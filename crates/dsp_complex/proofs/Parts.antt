-- Products of the parts of complex numbers, and sums of them that fit the word.
use Rattle.std.proofs.Common.{◌≡◌, ◌≢◌, ◌∙◌, ap, refl, sym, subst, to_z, of_z, ℕ, ◌-◌, ◌*◌, ◌^◌, ◌<◌, ◌≤◌, ℤ}
use Rattle.std.proofs.Common.{pos, negsuc, ◌+ℤ◌, ◌-ℤ◌, ◌*ℤ◌, SFits, arith, lit<, FitsSigned, nat_abs, w32, w64}
use Rattle.std.proofs.lemmas.Int.{to_z-of_z, ints}
use lib.Signed.{shr_z}
use Rattle.dsp_sat.proofs.Words.{shift_down-is, shr-small}
use Rattle.dsp_sat.proofs.WideProducts.{word-in-32}
use Rattle.dsp_defs.specs.Numbers.{◌>>◌}
use Rattle.dsp_defs.specs.Formats.{word, word_bits}
use Rattle.dsp_defs.specs.Complex.{product_shift, cmplx_mag_squared}
use Rattle.dsp_defs.specs.declared.format.Fmt.{Fmt}
use Rattle.dsp_defs.specs.declared.format.Fmt.TheVariants.{Q7, Q15, Q31}

pub shifted-small : (format : Fmt) (z : ℤ) → nat_abs z ≤ 2 ^ (2 * word_bits format - 2) →
    nat_abs (z >> product_shift format) ≤ 2 ^ (word_bits format - 3)
shifted-small Q7 z h = shr-small z 17 32 (lit< tt) (omega (arith, h))
shifted-small Q15 z h = shr-small z 17 8192 (lit< tt) h
shifted-small Q31 z h = shr-small z 33 536870912 (lit< tt) h

-- sums and differences of two small numbers
small-fits : (format : Fmt) (z : ℤ) → nat_abs z ≤ 2 * 2 ^ (word_bits format - 3) → FitsSigned (word format) z
small-fits Q7 (pos n) h = record { sfits = omega (arith, h) }
small-fits Q7 (negsuc n) h = record { sfits = omega (arith, h) }
small-fits Q15 (pos n) h = record { sfits = omega (arith, h) }
small-fits Q15 (negsuc n) h = record { sfits = omega (arith, h) }
small-fits Q31 (pos n) h = record { sfits = omega (arith, h) }
small-fits Q31 (negsuc n) h = record { sfits = omega (arith, h) }

sum-small : (x y : ℤ) (m : ℕ) → nat_abs x ≤ m → nat_abs y ≤ m → nat_abs (x +ℤ y) ≤ 2 * m
sum-small x y m h k = omega (arith, ints)

difference-small : (x y : ℤ) (m : ℕ) → nat_abs x ≤ m → nat_abs y ≤ m → nat_abs (x -ℤ y) ≤ 2 * m
difference-small x y m h k = omega (arith, ints)

sum-fits : (format : Fmt) (x y : ℤ) → nat_abs x ≤ 2 ^ (word_bits format - 3) →
    nat_abs y ≤ 2 ^ (word_bits format - 3) → FitsSigned (word format) (x +ℤ y)
sum-fits format x y h k = small-fits format (x +ℤ y) (sum-small x y (2 ^ (word_bits format - 3)) h k)

difference-fits : (format : Fmt) (x y : ℤ) → nat_abs x ≤ 2 ^ (word_bits format - 3) →
    nat_abs y ≤ 2 ^ (word_bits format - 3) → FitsSigned (word format) (x -ℤ y)
difference-fits format x y h k = small-fits format (x -ℤ y) (difference-small x y (2 ^ (word_bits format - 3)) h k)

-- a small number is one of 32 bits
pub small-in-32 : (format : Fmt) (z : ℤ) → nat_abs z ≤ 2 ^ (word_bits format - 3) → SFits w32 z
small-in-32 format z h = word-in-32 format z (small-fits format z (omega (arith, h)))

-- ---- as the code computes them

module _ (format : Fmt) (x y : ℤ) (x_small : nat_abs x ≤ 2 ^ (word_bits format - 3))
    (y_small : nat_abs y ≤ 2 ^ (word_bits format - 3)) where
  same_x : to_z w32 (of_z w32 x) ≡ x
  same_x = to_z-of_z w32 x (small-in-32 format x x_small)

  same_y : to_z w32 (of_z w32 y) ≡ y
  same_y = to_z-of_z w32 y (small-in-32 format y y_small)

  pub difference-in-32 : SFits w32 (to_z w32 (of_z w32 x) -ℤ to_z w32 (of_z w32 y))
  difference-in-32 = subst (SFits w32) (sym (λ i. same_x i -ℤ same_y i))
      (word-in-32 format (x -ℤ y) (difference-fits format x y x_small y_small))

  pub sum-in-32 : SFits w32 (to_z w32 (of_z w32 x) +ℤ to_z w32 (of_z w32 y))
  sum-in-32 = subst (SFits w32) (sym (λ i. same_x i +ℤ same_y i))
      (word-in-32 format (x +ℤ y) (sum-fits format x y x_small y_small))

  pub difference-is : to_z w32 (of_z w32 (to_z w32 (of_z w32 x) -ℤ to_z w32 (of_z w32 y))) ≡ x -ℤ y
  difference-is = to_z-of_z w32 (to_z w32 (of_z w32 x) -ℤ to_z w32 (of_z w32 y)) difference-in-32 ∙
      (λ i. same_x i -ℤ same_y i)

  pub sum-is : to_z w32 (of_z w32 (to_z w32 (of_z w32 x) +ℤ to_z w32 (of_z w32 y))) ≡ x +ℤ y
  sum-is = to_z-of_z w32 (to_z w32 (of_z w32 x) +ℤ to_z w32 (of_z w32 y)) sum-in-32 ∙ (λ i. same_x i +ℤ same_y i)

  pub difference-in-word : FitsSigned (word format) (to_z w32
      (of_z w32 (to_z w32 (of_z w32 x) -ℤ to_z w32 (of_z w32 y))))
  difference-in-word = subst (FitsSigned (word format)) (sym difference-is) (difference-fits format x y x_small y_small)

  pub sum-in-word : FitsSigned (word format) (to_z w32 (of_z w32 (to_z w32 (of_z w32 x) +ℤ to_z w32 (of_z w32 y))))
  sum-in-word = subst (FitsSigned (word format)) (sym sum-is) (sum-fits format x y x_small y_small)

-- ---- squared magnitudes

within : (z : ℤ) (m : ℕ) → nat_abs z ≤ 2 * m → 2 * m < 2 ^ 63 → SFits w64 z
within (pos n) m h k = record { sfits = omega (arith, h, k) }
within (negsuc n) m h k = record { sfits = omega (arith, h, k) }

pub magnitude-wide : (format : Fmt) (a b : ℤ) → word_bits format ≡ 32 →
    cmplx_mag_squared format a b ≡ (a *ℤ a >> product_shift format) +ℤ (b *ℤ b >> product_shift format)
magnitude-wide Q7 a b e = absurd (omega (arith, e))
magnitude-wide Q15 a b e = absurd (omega (arith, e))
magnitude-wide Q31 a b e = refl

pub magnitude-narrow : (format : Fmt) (a b : ℤ) → word_bits format ≢ 32 →
    cmplx_mag_squared format a b ≡ (a *ℤ a +ℤ b *ℤ b >> product_shift format)
magnitude-narrow Q7 a b e = refl
magnitude-narrow Q15 a b e = refl
magnitude-narrow Q31 a b e = absurd (e refl)

sum-in-64 : (format : Fmt) (x y : ℤ) → word_bits format ≢ 32 → nat_abs x ≤ 2 ^ (2 * word_bits format - 2) →
    nat_abs y ≤ 2 ^ (2 * word_bits format - 2) → SFits w64 (x +ℤ y)
sum-in-64 Q7 x y e h k = within (x +ℤ y) 16384 (sum-small x y 16384 h k) (lit< tt)
sum-in-64 Q15 x y e h k = within (x +ℤ y) 1073741824 (sum-small x y 1073741824 h k) (lit< tt)
sum-in-64 Q31 x y e h k = absurd (e refl)

shifted-sum-fits : (format : Fmt) (x y : ℤ) → nat_abs x ≤ 2 ^ (2 * word_bits format - 2) →
    nat_abs y ≤ 2 ^ (2 * word_bits format - 2) → FitsSigned (word format) (x +ℤ y >> product_shift format)
shifted-sum-fits Q7 x y h k = small-fits Q7 (x +ℤ y >> 17)
    (shr-small (x +ℤ y) 17 64 (lit< tt) (omega (arith, sum-small x y 16384 h k)))
shifted-sum-fits Q15 x y h k = small-fits Q15 (x +ℤ y >> 17)
    (shr-small (x +ℤ y) 17 16384 (lit< tt) (sum-small x y 1073741824 h k))
shifted-sum-fits Q31 x y h k = small-fits Q31 (x +ℤ y >> 33)
    (shr-small (x +ℤ y) 33 1073741824 (lit< tt) (sum-small x y 4611686018427387904 h k))

one-in-64 : (format : Fmt) (x : ℤ) → word_bits format ≢ 32 → nat_abs x ≤ 2 ^ (2 * word_bits format - 2) → SFits w64 x
one-in-64 Q7 x e h = within x 8192 h (lit< tt)
one-in-64 Q15 x e h = within x 536870912 h (lit< tt)
one-in-64 Q31 x e h = absurd (e refl)

module _ (format : Fmt) (x y : ℤ) (places : ℕ) (narrow : word_bits format ≢ 32)
    (x_small : nat_abs x ≤ 2 ^ (2 * word_bits format - 2)) (y_small : nat_abs y ≤ 2 ^ (2 * word_bits format - 2))
    (amount : places ≡ product_shift format) where
  both : to_z w64 (of_z w64 x) +ℤ to_z w64 (of_z w64 y) ≡ x +ℤ y
  both = λ i. to_z-of_z w64 x (one-in-64 format x narrow x_small) i +ℤ to_z-of_z w64 y
      (one-in-64 format y narrow y_small) i

  pub magnitude-in-64 : SFits w64 (to_z w64 (of_z w64 x) +ℤ to_z w64 (of_z w64 y))
  magnitude-in-64 = subst (SFits w64) (sym both) (sum-in-64 format x y narrow x_small y_small)

  shifted : to_z w64 (of_z w64 (shr_z (to_z w64 (of_z w64 (to_z w64 (of_z w64 x) +ℤ to_z w64 (of_z w64 y))))
      (2 ^ places))) ≡ (x +ℤ y >> product_shift format)
  shifted = shift_down-is w64 _ (x +ℤ y) places (product_shift format) magnitude-in-64 both amount

  shifted-in-32 : SFits w32 (x +ℤ y >> product_shift format)
  shifted-in-32 = word-in-32 format (x +ℤ y >> product_shift format) (shifted-sum-fits format x y x_small y_small)

  pub magnitude-in-32 : SFits w32 (to_z w64 (of_z w64 (shr_z
      (to_z w64 (of_z w64 (to_z w64 (of_z w64 x) +ℤ to_z w64 (of_z w64 y)))) (2 ^ places))))
  magnitude-in-32 = subst (SFits w32) (sym shifted) shifted-in-32

  pub magnitude-is : to_z w32 (of_z w32 (to_z w64 (of_z w64
      (shr_z (to_z w64 (of_z w64 (to_z w64 (of_z w64 x) +ℤ to_z w64 (of_z w64 y)))) (2 ^ places))))) ≡
      (x +ℤ y >> product_shift format)
  magnitude-is =
      ap (λ z. to_z w32 (of_z w32 z)) shifted ∙ to_z-of_z w32 (x +ℤ y >> product_shift format) shifted-in-32

  pub magnitude-in-word : FitsSigned (word format) (to_z w32
      (of_z w32 (to_z w64 (of_z w64 (shr_z (to_z w64 (of_z w64 (to_z w64 (of_z w64 x) +ℤ to_z w64 (of_z w64 y))))
      (2 ^ places))))))
  magnitude-in-word = subst (FitsSigned (word format)) (sym magnitude-is) (shifted-sum-fits format x y x_small y_small)
