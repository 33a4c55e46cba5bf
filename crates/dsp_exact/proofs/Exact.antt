-- Exact numbers, as 128 bits hold them: `exact` has what sums, differences, products and floor shifts are there.
use Rattle.std.proofs.Common.{◌≡◌, ℕ, ◌+◌, ◌^◌, ◌<◌, ◌≤◌, ℤ, pos, negsuc, ◌+ℤ◌, ◌-ℤ◌, ◌*ℤ◌, to_z, of_z, SFits, arith}
use Rattle.std.proofs.Common.{lit<, ◌∙◌, ap, sym, subst}
use Rattle.std.specs.Prelude.{nat_abs}
use Rattle.std.specs.Int.{w32, w64, w128}
use Rattle.std.proofs.lemmas.Int.{to_z-of_z, fits_signed_from_abs, fits_signed_mul, ints}
use Rattle.dsp_defs.specs.Numbers.{◌>>◌, saturate}
use Rattle.dsp_sat.proofs.Words.{abs_within, product_shift_fits}
use lib.Signed.{shr_z}

-- a sum and a difference are no larger than both numbers together
pub abs-add : (a b : ℤ) → nat_abs (a +ℤ b) ≤ nat_abs a + nat_abs b
abs-add (pos a) (pos b) = omega (arith, ints)
abs-add (pos a) (negsuc b) = omega (arith, ints)
abs-add (negsuc a) (pos b) = omega (arith, ints)
abs-add (negsuc a) (negsuc b) = omega (arith, ints)

abs-sub : (a b : ℤ) → nat_abs (a -ℤ b) ≤ nat_abs a + nat_abs b
abs-sub (pos a) (pos b) = omega (arith, ints)
abs-sub (pos a) (negsuc b) = omega (arith, ints)
abs-sub (negsuc a) (pos b) = omega (arith, ints)
abs-sub (negsuc a) (negsuc b) = omega (arith, ints)

-- a floor shift is no larger
pub abs-shift : (z : ℤ) (d : ℕ) → 0 < d → nat_abs (shr_z z d) ≤ nat_abs z
abs-shift (pos n) d some = omega arith
abs-shift (negsuc n) d some = omega arith

-- sums and differences of numbers far within 128 bits fit, and are exact
pub sum-fits : (a b : ℤ) → nat_abs a ≤ 2 ^ 125 → nat_abs b ≤ 2 ^ 125 → SFits w128 (a +ℤ b)
sum-fits a b left right = fits_signed_from_abs w128 (a +ℤ b) (omega (arith, abs-add a b))

pub exact-add : (a b : ℤ) → nat_abs a ≤ 2 ^ 125 → nat_abs b ≤ 2 ^ 125 → to_z w128 (of_z w128 (a +ℤ b)) ≡ a +ℤ b
exact-add a b left right = to_z-of_z w128 (a +ℤ b) (sum-fits a b left right)

difference-fits : (a b : ℤ) → nat_abs a ≤ 2 ^ 125 → nat_abs b ≤ 2 ^ 125 → SFits w128 (a -ℤ b)
difference-fits a b left right = fits_signed_from_abs w128 (a -ℤ b) (omega (arith, abs-sub a b))

pub exact-sub : (a b : ℤ) → nat_abs a ≤ 2 ^ 125 → nat_abs b ≤ 2 ^ 125 → to_z w128 (of_z w128 (a -ℤ b)) ≡ a -ℤ b
exact-sub a b left right = to_z-of_z w128 (a -ℤ b) (difference-fits a b left right)

-- two numbers of 32 bits, read in 128
module _ (m n a b : ℤ) (is_a : to_z w128 (of_z w128 m) ≡ a) (is_b : to_z w128 (of_z w128 n) ≡ b) (fits_a : SFits w32 a)
    (fits_b : SFits w32 b) where
  left : nat_abs a ≤ 2 ^ 125
  left = omega (arith, abs_within w32 a fits_a)

  right : nat_abs b ≤ 2 ^ 125
  right = omega (arith, abs_within w32 b fits_b)

  pub wide-sum-fits : SFits w128 (to_z w128 (of_z w128 m) +ℤ to_z w128 (of_z w128 n))
  wide-sum-fits = subst (SFits w128) (λ i. sym is_a i +ℤ sym is_b i) (sum-fits a b left right)

  pub wide-sum-is : to_z w128 (of_z w128 (to_z w128 (of_z w128 m) +ℤ to_z w128 (of_z w128 n))) ≡ a +ℤ b
  wide-sum-is = ap (λ z. to_z w128 (of_z w128 z)) (λ i. is_a i +ℤ is_b i) ∙ exact-add a b left right

  pub wide-difference-fits : SFits w128 (to_z w128 (of_z w128 m) -ℤ to_z w128 (of_z w128 n))
  wide-difference-fits = subst (SFits w128) (λ i. sym is_a i -ℤ sym is_b i) (difference-fits a b left right)

  pub wide-difference-is : to_z w128 (of_z w128 (to_z w128 (of_z w128 m) -ℤ to_z w128 (of_z w128 n))) ≡ a -ℤ b
  wide-difference-is = ap (λ z. to_z w128 (of_z w128 z)) (λ i. is_a i -ℤ is_b i) ∙ exact-sub a b left right

-- and products of numbers of 64 bits
pub product-fits : (a b : ℤ) → nat_abs a ≤ 2 ^ 63 → nat_abs b ≤ 2 ^ 63 → SFits w128 (a *ℤ b)
product-fits a b left right = fits_signed_mul w128 a b (2 ^ 63) (2 ^ 63) left right (lit< tt)

pub exact-mul : (a b : ℤ) → nat_abs a ≤ 2 ^ 63 → nat_abs b ≤ 2 ^ 63 → to_z w128 (of_z w128 (a *ℤ b)) ≡ a *ℤ b
exact-mul a b left right = to_z-of_z w128 (a *ℤ b) (product-fits a b left right)

-- a product of two numbers of 32 bits, shifted down
pub floor-is : (a b p v : ℤ) (n : ℕ) → SFits w32 a → SFits w32 b → SFits w128 p → SFits w128 v →
    p ≡ to_z w32 (of_z w32 a) *ℤ to_z w32 (of_z w32 b) → v ≡ (to_z w128 (of_z w128 p) >> n) →
    to_z w128 (of_z w128 v) ≡ (a *ℤ b >> n)
floor-is a b p v n fits_a fits_b fits_p fits_v is_p is_v =
    to_z-of_z w128 v fits_v
    ∙ is_v
    ∙ ap (λ z. z >> n) (to_z-of_z w128 p fits_p ∙ is_p ∙ (λ i. to_z-of_z w32 a fits_a i *ℤ to_z-of_z w32 b fits_b i))

-- its high word, saturated
pub high-is : (a b p v r : ℤ) → SFits w32 a → SFits w32 b → SFits w128 p → SFits w128 v → SFits w32 r →
    p ≡ to_z w32 (of_z w32 a) *ℤ to_z w32 (of_z w32 b) → v ≡ (to_z w128 (of_z w128 p) >> 32) →
    r ≡ saturate 31 (to_z w64 (of_z w64 (to_z w128 (of_z w128 v)))) →
    to_z w32 (of_z w32 r) ≡ saturate 31 (a *ℤ b >> 32)
high-is a b p v r fits_a fits_b fits_p fits_v fits_r is_p is_v is_r =
    to_z-of_z w32 r fits_r
    ∙ is_r
    ∙ ap (λ z. saturate 31 (to_z w64 (of_z w64 z))) (floor-is a b p v 32 fits_a fits_b fits_p fits_v is_p is_v)
    ∙ ap (saturate 31) (to_z-of_z w64 (a *ℤ b >> 32) (product_shift_fits w64 w32 w32 a b 32 fits_a fits_b (lit< tt)))

-- twice a number of 31 bits
pub twice-fits : (z : ℤ) → SFits w32 (pos 2 *ℤ saturate 31 z)
twice-fits (pos n) = record { sfits = omega (arith, ints) }
twice-fits (negsuc n) = record { sfits = omega (arith, ints) }

pub ruleset exact = (to_z-of_z, exact-add, exact-sub, exact-mul, abs-shift)

-- and that they fit
pub ruleset exact_fits = (exact, sum-fits, product-fits)
