-- Numbers of a format that stay in 32 bits.
use Rattle.std.proofs.Common.{ℤ, pos, negsuc, ◌≡◌, ◌≤◌, ◌-◌, ◌^◌, ◌+ℤ◌, ◌-ℤ◌, ◌≤ℤ◌, ◌∙◌, ap, subst, arith, SFits}
use Rattle.std.proofs.Common.{FitsSigned, w32, to_z, of_z, to_z-of_z, refl, sym, lit<}
use Rattle.std.proofs.Common.{◌<◌, ◌*◌, ◌%◌, w8, w16, ℕ, ◌*ℤ◌, nat_abs}
use Rattle.std.specs.Int.{int_max}
use lib.Signed.{shr_z}
use Rattle.std.proofs.lemmas.Int.{ints, clamps, fits_signed_from_abs}
use Rattle.dsp_defs.specs.Elementwise.{add, sub, mult, negate, scale, shift, IsScaleShift, IsShift}
use Rattle.dsp_defs.specs.Formats.{word, word_bits}
use Rattle.dsp_defs.specs.Numbers.{saturate}
use Rattle.dsp_sat.proofs.Words.{abs_within, shift_down-is, shift_up-is}
use Rattle.dsp_defs.specs.declared.format.Fmt.{Fmt}
use Rattle.dsp_defs.specs.declared.format.Fmt.TheVariants.{Q7, Q15, Q31}

fits_between : (z : ℤ) → negsuc 2147483647 ≤ℤ z → z ≤ℤ pos 2147483647 → SFits w32 z
fits_between (pos n) low high = record { sfits = omega (arith, ints, high) }
fits_between (negsuc n) low high = record { sfits = omega (arith, ints, low) }

abbrev pub greatest : Fmt → ℤ
greatest format = pos (2 ^ (word_bits format - 1) - 1)

-- of a number that is clamped from below
clamped : (format : Fmt) (x : ℤ) → FitsSigned (word format) x →
    (pos 0 -ℤ int_max x (pos 0 -ℤ greatest format) ≡ negate format x)
    × (negsuc 2147483646 ≤ℤ int_max x (pos 0 -ℤ greatest format)) ×
    (int_max x (pos 0 -ℤ greatest format) ≤ℤ pos 2147483647)
clamped Q7 (pos n) fits = (
  grind (arith, ints, clamps),
  grind (arith, ints, clamps),
  grind (arith, ints, clamps, fits.sfits),
)
clamped Q7 (negsuc n) fits = (grind (arith, ints, clamps), grind (arith, ints, clamps), grind (arith, ints, clamps))
clamped Q15 (pos n) fits = (
  grind (arith, ints, clamps),
  grind (arith, ints, clamps),
  grind (arith, ints, clamps, fits.sfits),
)
clamped Q15 (negsuc n) fits = (grind (arith, ints, clamps), grind (arith, ints, clamps), grind (arith, ints, clamps))
clamped Q31 (pos n) fits = (
  grind (arith, ints, clamps),
  grind (arith, ints, clamps),
  grind (arith, ints, clamps, fits.sfits),
)
clamped Q31 (negsuc n) fits = (grind (arith, ints, clamps), grind (arith, ints, clamps), grind (arith, ints, clamps))

kept : (z : ℤ) → negsuc 2147483647 ≤ℤ z → z ≤ℤ pos 2147483647 → to_z w32 (of_z w32 z) ≡ z
kept z low high = to_z-of_z (fits_between z low high)

-- the bounds of a number and of the greatest
bounded : (format : Fmt) (x : ℤ) → FitsSigned (word format) x → (negsuc 2147483647 ≤ℤ x) × (x ≤ℤ pos 2147483647) ×
    (pos 0 ≤ℤ greatest format) × (greatest format ≤ℤ pos 2147483647)
bounded Q7 (pos n) fits = (
  omega (arith, ints),
  omega (arith, ints, fits.sfits),
  omega (arith, ints),
  omega (arith, ints),
)
bounded Q7 (negsuc n) fits = (
  omega (arith, ints, fits.sfits),
  omega (arith, ints),
  omega (arith, ints),
  omega (arith, ints),
)
bounded Q15 (pos n) fits = (
  omega (arith, ints),
  omega (arith, ints, fits.sfits),
  omega (arith, ints),
  omega (arith, ints),
)
bounded Q15 (negsuc n) fits = (
  omega (arith, ints, fits.sfits),
  omega (arith, ints),
  omega (arith, ints),
  omega (arith, ints),
)
bounded Q31 (pos n) fits = (
  omega (arith, ints),
  omega (arith, ints, fits.sfits),
  omega (arith, ints),
  omega (arith, ints),
)
bounded Q31 (negsuc n) fits = (
  omega (arith, ints, fits.sfits),
  omega (arith, ints),
  omega (arith, ints),
  omega (arith, ints),
)

-- the negative in 32 bits
pub negated : (format : Fmt) (x m v : ℤ) → FitsSigned (word format) x → m ≡ greatest format →
    v ≡ int_max (to_z w32 (of_z w32 x)) (to_z w32 (of_z w32 (pos 0 -ℤ to_z w32 (of_z w32 m)))) →
    to_z w32 (of_z w32 (pos 0 -ℤ to_z w32 (of_z w32 v))) ≡ negate format x
negated format x m v fits is_m is_v =
    let b = bounded format x fits in
    let c = clamped format x fits in
    let x_is : to_z w32 (of_z w32 x) ≡ x = kept x b.0 b.1 in
    let m_is : to_z w32 (of_z w32 m) ≡ greatest format = ap (λ z. to_z w32 (of_z w32 z)) is_m ∙
    kept (greatest format) (omega (arith, ints, b.2)) b.3 in
    let low_is : to_z w32 (of_z w32 (pos 0 -ℤ to_z w32 (of_z w32 m))) ≡ pos 0 -ℤ greatest format =
    ap (λ z. to_z w32 (of_z w32 (pos 0 -ℤ z))) m_is ∙ kept (pos 0 -ℤ greatest format) (omega (arith, ints, b.3))
    (omega (arith, ints, b.2)) in
    let value : v ≡ int_max x (pos 0 -ℤ greatest format) = is_v ∙ (λ i. int_max (x_is i) (low_is i)) in
    let v_is : to_z w32 (of_z w32 v) ≡ int_max x (pos 0 -ℤ greatest format) =
    ap (λ z. to_z w32 (of_z w32 z)) value ∙ kept (int_max x (pos 0 -ℤ greatest format)) (omega (arith, ints, c.1)) c.2
    in
    ap (λ z. to_z w32 (of_z w32 (pos 0 -ℤ z))) v_is
    ∙ kept (pos 0 -ℤ int_max x (pos 0 -ℤ greatest format)) (omega (arith, ints, c.2)) (omega (arith, ints, c.1))
    ∙ c.0

-- ---- numbers of 8 or 16 bits

narrow : (format : Fmt) (x : ℤ) → word_bits format < 32 → FitsSigned (word format) x → SFits w16 x
narrow Q7 x less f = record { sfits = omega (arith, f.sfits) }
narrow Q15 x less f = f
narrow Q31 x less f = absurd (omega (arith, less))

-- a format of less than 32 bits, by a number that was tested
pub is-narrow : (format : Fmt) (n bits : ℕ) → n < 32 → n ≡ bits → bits ≡ word_bits format → word_bits format < 32
is-narrow format n bits less is is' = omega arith

pub some_bits : (format : Fmt) → 1 ≤ word_bits format
some_bits Q7 = omega arith
some_bits Q15 = omega arith
some_bits Q31 = omega arith

module _ (format : Fmt) (a b : ℤ) (less : word_bits format < 32) (wide_a : SFits w32 a) (wide_b : SFits w32 b)
    (fits_a : FitsSigned (word format) a) (fits_b : FitsSigned (word format) b) where
  -- neither the sum nor the difference leaves 32 bits
  pub sum-fits : SFits w32 (to_z w32 (of_z w32 a) +ℤ to_z w32 (of_z w32 b))
  sum-fits =
      let f = narrow format a less fits_a in
      let g = narrow format b less fits_b in
      subst (SFits w32) (λ i. sym (to_z-of_z wide_a) i +ℤ sym (to_z-of_z wide_b) i) (both a b f g)
    where
      both : (x y : ℤ) → SFits w16 x → SFits w16 y → SFits w32 (x +ℤ y)
      both x y f g = fits_signed_from_abs w32 (x +ℤ y)
          (omega (arith, ints, abs_within w16 x f, abs_within w16 y g))

  pub difference-fits : SFits w32 (to_z w32 (of_z w32 a) -ℤ to_z w32 (of_z w32 b))
  difference-fits =
      let f = narrow format a less fits_a in
      let g = narrow format b less fits_b in
      subst (SFits w32) (λ i. sym (to_z-of_z wide_a) i -ℤ sym (to_z-of_z wide_b) i) (both a b f g)
    where
      both : (x y : ℤ) → SFits w16 x → SFits w16 y → SFits w32 (x -ℤ y)
      both x y f g = fits_signed_from_abs w32 (x -ℤ y)
          (omega (arith, ints, abs_within w16 x f, abs_within w16 y g))

  pub clamped-sum : (r : ℤ) → SFits w32 r → r ≡ saturate (word_bits format)
      (to_z w32 (of_z w32 (to_z w32 (of_z w32 a) +ℤ to_z w32 (of_z w32 b)))) → to_z w32 (of_z w32 r) ≡ add format a b
  clamped-sum r fits is = to_z-of_z fits ∙ is ∙ ap (saturate (word_bits format))
      (to_z-of_z sum-fits ∙ (λ i. to_z-of_z wide_a i +ℤ to_z-of_z wide_b i))

  pub clamped-difference : (r : ℤ) → SFits w32 r → r ≡ saturate (word_bits format)
      (to_z w32 (of_z w32 (to_z w32 (of_z w32 a) -ℤ to_z w32 (of_z w32 b)))) → to_z w32 (of_z w32 r) ≡ sub format a b
  clamped-difference r fits is = to_z-of_z fits ∙ is ∙ ap (saturate (word_bits format))
      (to_z-of_z difference-fits ∙ (λ i. to_z-of_z wide_a i -ℤ to_z-of_z wide_b i))

-- a number that is read as one of 16 bits
pub half : (format : Fmt) (x : ℤ) → word_bits format < 32 → SFits w32 x → FitsSigned (word format) x →
    SFits w16 (to_z w32 (of_z w32 x))
half format x less wide fits = subst (SFits w16) (sym (to_z-of_z wide)) (narrow format x less fits)

pub half-is : (m x : ℤ) → SFits w16 m → SFits w32 x → m ≡ to_z w32 (of_z w32 x) → to_z w16 (of_z w16 m) ≡ x
half-is m x fits wide is = to_z-of_z fits ∙ is ∙ to_z-of_z wide

-- their product, shifted down in 32 bits
pub multiplied-is : (format : Fmt) (a b p r : ℤ) (d : ℕ) → word_bits format < 32 → SFits w32 p → p ≡ a *ℤ b →
    d ≡ word_bits format - 1 → r ≡ saturate (word_bits format) (to_z w32 (of_z w32
    (shr_z (to_z w32 (of_z w32 p)) (2 ^ d)))) → r ≡ mult format a b
multiplied-is Q7 a b p r d less fits product down is =
    is ∙ ap (saturate 8) (shift_down-is w32 p (a *ℤ b) d 7 fits product down)
multiplied-is Q15 a b p r d less fits product down is =
    is ∙ ap (saturate 16) (shift_down-is w32 p (a *ℤ b) d 15 fits product down)
multiplied-is Q31 a b p r d less fits product down is = absurd (omega (arith, less))

-- a number of 8 or 16 bits, shifted up in 32
pub grown : (format : Fmt) (x places r : ℤ) → word_bits format < 32 → SFits w32 x →
    FitsSigned (word format) x → IsShift format places → pos 0 ≤ℤ places →
    r ≡ saturate (word_bits format) (to_z w32 (of_z w32 x * 2 ^ of_z w32 places % 4294967296)) →
    r ≡ shift format places x
grown Q7 x places r less wide fits moves up is =
    shift_up-is w32 w8 8 7 (of_z w32 places) x x places r fits wide (sym (to_z-of_z fits)) refl up moves.1
    (lit< tt) (lit< tt) is
grown Q15 x places r less wide fits moves up is =
    shift_up-is w32 w16 16 15 (of_z w32 places) x x places r fits wide (sym (to_z-of_z fits)) refl up
    moves.1 (lit< tt) (lit< tt) is
grown Q31 x places r less wide fits moves up is = absurd (omega (arith, less))

-- by how many places a product is shifted down
pub difference_down : (format : Fmt) (n d : ℕ) (places : ℤ) → word_bits format < 32 → n ≡ word_bits format →
    SFits w32 places → IsScaleShift format places →
    d ≡ nat_abs (to_z w32 (of_z w32 (to_z w32 (of_z w32 (to_z w32 n -ℤ pos 1)) -ℤ to_z w32 (of_z w32 places)))) →
    (d ≡ nat_abs (pos (word_bits format - 1) -ℤ places)) × (d < 32)
difference_down Q7 n d places less eight fits moves is =
    let room : SFits w32 (pos 7 -ℤ places) = omega (arith, ints, moves) in
    let places_is : to_z w32 (of_z w32 places) ≡ places = to_z-of_z fits in
    let down : d ≡ nat_abs (pos 7 -ℤ places) =
    is
    ∙ ap (λ m. nat_abs (to_z w32 (of_z w32 (to_z w32 (of_z w32 (to_z w32 m -ℤ pos 1)) -ℤ to_z w32 (of_z w32 places)))))
    eight
    ∙ ap (λ z. nat_abs (to_z w32 (of_z w32 (pos 7 -ℤ z)))) places_is
    ∙ ap nat_abs (to_z-of_z room) in (
      down,
      omega (arith, ints, moves, down),
    )
difference_down Q15 n d places less sixteen fits moves is =
    let room : SFits w32 (pos 15 -ℤ places) = omega (arith, ints, moves) in
    let places_is : to_z w32 (of_z w32 places) ≡ places = to_z-of_z fits in
    let down : d ≡ nat_abs (pos 15 -ℤ places) =
    is
    ∙ ap (λ m. nat_abs (to_z w32 (of_z w32 (to_z w32 (of_z w32 (to_z w32 m -ℤ pos 1)) -ℤ to_z w32 (of_z w32 places)))))
    sixteen
    ∙ ap (λ z. nat_abs (to_z w32 (of_z w32 (pos 15 -ℤ z)))) places_is
    ∙ ap nat_abs (to_z-of_z room) in (
      down,
      omega (arith, ints, moves, down),
    )
difference_down Q31 n d places less all fits moves is = absurd (omega (arith, less))

-- a product of numbers of 8 or 16 bits, shifted down in 32
pub scaled-is : (format : Fmt) (x fract places p r : ℤ) (d : ℕ) → word_bits format < 32 → SFits w32 x →
    SFits w32 fract → SFits w32 p → p ≡ to_z w32 (of_z w32 x) *ℤ to_z w32 (of_z w32 fract) →
    d ≡ nat_abs (pos (word_bits format - 1) -ℤ places) →
    r ≡ saturate (word_bits format) (to_z w32 (of_z w32 (shr_z (to_z w32 (of_z w32 p)) (2 ^ d)))) →
    r ≡ scale format fract places x
scaled-is Q7 x fract places p r d less fits_x fits_fract fits_p product down is =
    is ∙ ap (saturate 8) (shift_down-is w32 p (x *ℤ fract) d (nat_abs (pos 7 -ℤ places)) fits_p
    (product ∙ (λ i. to_z-of_z fits_x i *ℤ to_z-of_z fits_fract i)) down)
scaled-is Q15 x fract places p r d less fits_x fits_fract fits_p product down is =
    is ∙ ap (saturate 16) (shift_down-is w32 p (x *ℤ fract) d (nat_abs (pos 15 -ℤ places)) fits_p
    (product ∙ (λ i. to_z-of_z fits_x i *ℤ to_z-of_z fits_fract i)) down)
scaled-is Q31 x fract places p r d less fits_x fits_fract fits_p product down is = absurd (omega (arith, less))
