-- Numbers of a width: their products and shifts, and wrapping by a Euclidean remainder.
use Rattle.std.proofs.Common.{◌≡◌, pow_mono, ◌∙◌, ap, refl, sym, subst, ℕ, ◌%◌, ◌≤ℤ◌, ◌+◌, ◌*◌, ◌≤◌, ◌<◌, ℤ, pos}
use Rattle.std.proofs.Common.{negsuc, ◌^◌, ◌*ℤ◌, to_z, of_z, SFits, unsigned_abs, arith}
use Rattle.std.specs.Int.{Width, int_wrap, int_rem_euclid, int_min, int_max}
use Rattle.std.specs.Prelude.{nat_abs}
use Rattle.std.proofs.lemmas.Int.{to_z-of_z, fits_signed_mul, unsigned_abs-mul, wrapping_mul_is, int_wrap_fits, ints}
use Rattle.std.proofs.lemmas.Int.{clamps}
use Rattle.std.proofs.Math.Pow.{shr_lt}
use Rattle.std.proofs.Math.Nat.{mul-le-mul, div-le_of_le-mul, div-lt_iff_lt-mul}
use mir.Val.{bits as bits_of, hbits}
use lib.Signed.{shr_z, mag, mag_shr}
use Rattle.dsp_defs.specs.Numbers.{wrap, saturate, ◌>>◌}
use Rattle.dsp_defs.specs.Elementwise.{shift_in}

-- the remainder of v, taken at the width u and read as a signed number of the width w, is v wrapped
pub remainder_wraps :
    (w u : Width) (v r s : ℤ) → SFits u v → SFits u r → SFits w s →
    r ≡ int_rem_euclid (to_z u (of_z u v)) (pos (2 ^ bits_of w)) →
    s ≡ to_z w (unsigned_abs (to_z u (of_z u r))) → to_z w (of_z w s) ≡ wrap w v
unfolding int_wrap
remainder_wraps w u v r s fits_v fits_r fits_s remainder word =
    to_z-of_z w s fits_s
    ∙ word
    ∙ ap (λ t. to_z w (unsigned_abs t)) (to_z-of_z u r fits_r ∙ remainder ∙
    ap (λ t. int_rem_euclid t (pos (2 ^ bits_of w))) (to_z-of_z u v fits_v))

pub abs_within : (w : Width) (z : ℤ) → SFits w z → unsigned_abs z ≤ 2 ^ hbits w
abs_within w (pos n) fits = omega (arith, fits.sfits)
abs_within w (negsuc n) fits = omega (arith, fits.sfits)

-- a product of numbers of two widths, at a third
pub product_fits :
    (w u v : Width) (a b : ℤ) → SFits u a → SFits v b → 2 ^ hbits u * 2 ^ hbits v < 2 ^ hbits w → SFits w (a *ℤ b)
product_fits w u v a b fits_a fits_b room =
    fits_signed_mul w a b (2 ^ hbits u) (2 ^ hbits v) (abs_within u a fits_a) (abs_within v b fits_b) room

mag_below : (z : ℤ) (m n : ℕ) → unsigned_abs z ≤ m → m < n → mag z < n
mag_below (pos k) m n le below = omega arith
mag_below (negsuc k) m n le below = omega arith

-- a floor shift by k places gains k bits of room
pub shift_fits : (w : Width) (z : ℤ) (k : ℕ) → mag z < 2 ^ (hbits w + k) → SFits w (shr_z z (2 ^ k))
shift_fits w (pos n) k below = record { sfits = shr_lt (hbits w) k below }
shift_fits w (negsuc n) k below = record { sfits = shr_lt (hbits w) k below }

-- the product of numbers of two widths, shifted, at a third
pub product_shift_fits :
    (w u v : Width) (a b : ℤ) (k : ℕ) → SFits u a → SFits v b → 2 ^ hbits u * 2 ^ hbits v < 2 ^ (hbits w + k) →
    SFits w (shr_z (a *ℤ b) (2 ^ k))
product_shift_fits w u v a b k fits_a fits_b room =
    shift_fits w (a *ℤ b) k
    (mag_below (a *ℤ b) (2 ^ hbits u * 2 ^ hbits v) (2 ^ (hbits w + k))
    (rw unsigned_abs-mul (mul-le-mul (abs_within u a fits_a) (abs_within v b fits_b))) room)

-- a number that is shifted up at a wide type, and saturated
pub shift_up-is :
    (w u : Width) (bits most amount : ℕ) (x z places r : ℤ) → SFits u x → SFits w x → z ≡ to_z u (of_z u x) →
    amount ≡ of_z w places → pos 0 ≤ℤ places → places ≤ℤ pos most → 2 ^ most < 2 ^ hbits w →
    2 ^ hbits u * 2 ^ most < 2 ^ hbits w →
    r ≡ saturate bits (to_z w (of_z w z * 2 ^ amount % 2 ^ bits_of w)) → r ≡ shift_in bits x places
shift_up-is w u bits most amount x z (pos k) r fits_x wide is_x is_places up within small room is =
    let few : k ≤ most = omega (arith, ints) in
    let power : 2 ^ k ≤ 2 ^ most = pow_mono few in
    let fits_power : SFits w (pos (2 ^ k)) = record { sfits = omega arith } in
    let fits_product : SFits w (x *ℤ pos (2 ^ k)) =
    fits_signed_mul w x (pos (2 ^ k)) (2 ^ hbits u) (2 ^ most) (abs_within u x fits_x) power room in
    is
    ∙ ap (λ t. saturate bits (to_z w (of_z w t * 2 ^ amount % 2 ^ bits_of w))) (is_x ∙ to_z-of_z u x fits_x)
    ∙ ap (λ t. saturate bits (to_z w (of_z w x * 2 ^ t % 2 ^ bits_of w))) is_places
    ∙ ap (saturate bits) (wrapping_mul_is w x (pos (2 ^ k)) wide fits_power ∙
    int_wrap_fits w (x *ℤ pos (2 ^ k)) fits_product)
shift_up-is w u bits most amount x z (negsuc k) r fits_x wide is_x is_places up within small room is =
    absurd (omega (arith, ints))

-- a floor shift stays in the width
pub shift_down_fits : (w : Width) (z : ℤ) (m : ℕ) → SFits w z → SFits w (shr_z z m)
shift_down_fits w z m fits = record { sfits = omega (arith, fits.sfits, mag_shr z m) }

-- a shift down at a type, as a floor shift
pub shift_down-is :
    (w : Width) (z value : ℤ) (amount places : ℕ) → SFits w z → z ≡ value → amount ≡ places →
    to_z w (of_z w (shr_z (to_z w (of_z w z)) (2 ^ amount))) ≡ (value >> places)
shift_down-is w z value amount places fits is_value is_places =
    ap (λ t. to_z w (of_z w (shr_z t (2 ^ amount)))) (to_z-of_z w z fits)
    ∙ to_z-of_z w (shr_z z (2 ^ amount)) (shift_down_fits w z (2 ^ amount) fits)
    ∙ ap (λ t. t >> amount) is_value
    ∙ ap (λ t. value >> t) is_places

-- a number of one width, read at a wider one
pub widened : (w u : Width) (n z : ℤ) → SFits u z → SFits w n → n ≡ to_z u (of_z u z) → to_z w (of_z w n) ≡ z
widened w u n z fits_z fits_n is = to_z-of_z w n fits_n ∙ is ∙ to_z-of_z u z fits_z

-- the product of two numbers, each read at a wider width
pub wide_fits :
    (w u v : Width) (m n a b : ℤ) → to_z w (of_z w m) ≡ a → to_z w (of_z w n) ≡ b → SFits u a → SFits v b →
    2 ^ hbits u * 2 ^ hbits v < 2 ^ hbits w →
    SFits w (to_z w (of_z w m) *ℤ to_z w (of_z w n))
wide_fits w u v m n a b is_a is_b fits_a fits_b room =
    subst (SFits w) (λ i. sym is_a i *ℤ sym is_b i) (product_fits w u v a b fits_a fits_b room)

pub wide-is :
    (w u v : Width) (m n a b : ℤ) → to_z w (of_z w m) ≡ a → to_z w (of_z w n) ≡ b → SFits u a → SFits v b →
    2 ^ hbits u * 2 ^ hbits v < 2 ^ hbits w →
    to_z w (of_z w (to_z w (of_z w m) *ℤ to_z w (of_z w n))) ≡ a *ℤ b
wide-is w u v m n a b is_a is_b fits_a fits_b room =
    ap (λ z. to_z w (of_z w z)) (λ i. is_a i *ℤ is_b i) ∙
    to_z-of_z w (a *ℤ b) (product_fits w u v a b fits_a fits_b room)

-- a sum of a width, shifted down to be closed
pub sum_shift-is :
    (w : Width) (sum : ℤ) (k : ℕ) → SFits w sum → to_z w (of_z w (shr_z (to_z w (of_z w sum)) (2 ^ k))) ≡
    (wrap w sum >> k)
sum_shift-is w sum k fits = shift_down-is w sum (wrap w sum) k k fits (sym (int_wrap_fits w sum fits)) refl

-- the high word of a product of two words of 32 bits is at least -2^30
pub high_low : (z : ℤ) → unsigned_abs z ≤ 4611686018427387904 → negsuc 1073741823 ≤ℤ shr_z z 4294967296
high_low (pos n) small = omega (arith, ints)
high_low (negsuc n) small = omega (arith, ints)

-- the lesser and the greater of two numbers, whichever comes first
int_min-comm : (x y : ℤ) → int_min x y ≡ int_min y x
int_min-comm x y = omega (arith, ints, clamps)

int_max-comm : (x y : ℤ) → int_max x y ≡ int_max y x
int_max-comm x y = omega (arith, ints, clamps)

-- `x.max(low).min(high)` at a width
pub clip-is :
    (w : Width) (x low high most least : ℤ) → SFits w x → SFits w low → SFits w high → SFits w most → SFits w least →
    most ≡ int_max (to_z w (of_z w x)) (to_z w (of_z w low)) →
    least ≡ int_min (to_z w (of_z w most)) (to_z w (of_z w high)) →
    to_z w (of_z w least) ≡ int_min high (int_max low x)
clip-is w x low high most least fits_x fits_low fits_high fits_most fits_least is_most is_least =
    to_z-of_z w least fits_least
    ∙ is_least
    ∙ (λ i. int_min (to_z-of_z w most fits_most i) (to_z-of_z w high fits_high i))
    ∙ int_min-comm most high
    ∙ ap (int_min high) (is_most ∙ (λ i. int_max (to_z-of_z w x fits_x i) (to_z-of_z w low fits_low i)) ∙
    int_max-comm x low)

-- the product of two numbers of a width, shifted down at a wider one
pub product_shift-is :
    (w u : Width) (a b p : ℤ) (k : ℕ) → SFits u a → SFits u b → SFits w p → p ≡ to_z u (of_z u a) *ℤ to_z u (of_z u b) →
    to_z w (of_z w (shr_z (to_z w (of_z w p)) (2 ^ k))) ≡ (a *ℤ b >> k)
product_shift-is w u a b p k fits_a fits_b fits_p is =
    shift_down-is w p (a *ℤ b) k k fits_p (is ∙ (λ i. to_z-of_z u a fits_a i *ℤ to_z-of_z u b fits_b i)) refl

-- what a shift leaves of a small number
pub shr-small : (z : ℤ) (k m : ℕ) → 0 < 2 ^ k → nat_abs z ≤ m * 2 ^ k → nat_abs (z >> k) ≤ m
shr-small (pos n) k m some h = div-le_of_le-mul (2 ^ k) (omega (arith, h))
shr-small (negsuc n) k m some h = let below : n < m * 2 ^ k = omega (arith, h) in let q =
    (div-lt_iff_lt-mul some).1 below in omega (arith, q)
