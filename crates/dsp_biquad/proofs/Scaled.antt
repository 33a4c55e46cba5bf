-- The post shift of a section in its coefficients: the sum of its products is 2^p times as large, and shifted by a
-- constant.
use Rattle.std.proofs.Common.{◌≡◌, ◌∙◌, ap, sym, refl, ℕ, zero, suc, ◌+◌, ◌-◌, ◌*◌, ◌<◌, ◌≤◌, ◌^◌, ℤ, pos, negsuc}
use Rattle.std.proofs.Common.{◌+ℤ◌, ◌*ℤ◌, List, [], ◌∷◌, subst, ◌%◌, SFits, to_z, of_z, lit<, pow_mono, arith}
use Rattle.std.specs.Prelude.{neg_ℤ, nat_abs}
use Rattle.std.specs.Int.{Width, w16, w32, w64, int_wrap}
use Rattle.std.proofs.Math.Nat.{mul_comm, mul-le-mul}
use Rattle.std.proofs.lemmas.Nat.{pow-add}
use Rattle.std.proofs.lemmas.Int.{ints, int_wrap_fits, SFits-int_wrap, int_wrap-mul_left, int_wrap-add_left}
use Rattle.std.proofs.lemmas.Int.{int_wrap-add_right, int_wrap-add_same, unsigned_abs-mul, fits_signed_mul}
use Rattle.std.proofs.lemmas.Int.{wrapping_mul_is}
use lib.IntN.{*ℤ-negsuc, neg_ℤ-+ℤ, suc_ℤ-*ℤ, zero-*ℤ, *ℤ_comm}
use lib.Pow.{pow_pos}
use lib.Signed.{shr_z}
use Rattle.dsp_sat.proofs.Words.{abs_within}
use Rattle.dsp_sections.proofs.FloorShifts.{times_times, sum_times, floor_is, upper_word}
use Rattle.dsp_sections.proofs.ScaledShifts.{shift_scaled}
use Rattle.dsp_sections.proofs.FourSections.{abs_sum, byte}
use Rattle.dsp_defs.specs.Biquad.{Section, section_close, section_output}
use Rattle.dsp_defs.specs.Formats.{word}
use Rattle.dsp_defs.specs.Kept.{latest}
use Rattle.dsp_defs.specs.Numbers.{◌>>◌, wrap, saturate}
use Rattle.dsp_defs.specs.Parameters.{greatest_biquad_shift}
use Rattle.dsp_defs.specs.Signal.{sample, outputs}
use Rattle.dsp_defs.specs.Streaming.{Behaviour}
use Rattle.dsp_defs.specs.declared.format.Fmt.{Fmt}
use Rattle.dsp_defs.specs.declared.format.Fmt.TheVariants.{Q7, Q15, Q31}
use Rattle.dsp_biquad.specs.Scaled.{IsScaled}
use Rattle.dsp_biquad.specs.Sections.{section_acts}

-- ---- coefficients
-- the word of a coefficient times 2^p: in Q31 the sum of the products wraps in any case
abbrev pub scaled_word : Fmt → Width
scaled_word Q31 = w64
scaled_word f = w32

up_16 : (z : ℤ) (p : ℕ) → SFits w16 z → p ≤ 13 → SFits w32 (z *ℤ pos (2 ^ p))
up_16 z p f few =
    let small : 2 ^ p ≤ 2 ^ 13 = pow_mono few in
    fits_signed_mul w32 z (pos (2 ^ p)) (2 ^ 15) (2 ^ 13) (abs_within w16 z f) small (lit< tt)

up_32 : (z : ℤ) (p : ℕ) → SFits w32 z → p ≤ 30 → SFits w64 (z *ℤ pos (2 ^ p))
up_32 z p f few =
    let small : 2 ^ p ≤ 2 ^ 30 = pow_mono few in
    fits_signed_mul w64 z (pos (2 ^ p)) (2 ^ 31) (2 ^ 30) (abs_within w32 z f) small (lit< tt)

scaled-fits : (format : Fmt) (z : ℤ) (p : ℕ) → SFits (word format) z → p ≤ greatest_biquad_shift format →
    SFits (scaled_word format) (z *ℤ pos (2 ^ p))
scaled-fits Q7 z p f few = up_16 z p (record { sfits = omega (arith, f.sfits) }) few
scaled-fits Q15 z p f few = up_16 z p f few
scaled-fits Q31 z p f few = up_32 z p f few

pub of_scaled : (format : Fmt) (p : ℕ) (b : ℤ) → IsScaled format p b → p ≤ greatest_biquad_shift format →
    SFits (scaled_word format) b
of_scaled format p b is few = subst (SFits (scaled_word format)) (sym is.1) (scaled-fits format (b >> p) p is.0 few)

pub shift-few : (format : Fmt) (p : ℕ) → p ≤ greatest_biquad_shift format → p ≤ 30
shift-few Q7 p few = omega (arith, few)
shift-few Q15 p few = omega (arith, few)
shift-few Q31 p few = few

unscaled : (z : ℤ) (d : ℕ) → 0 < d → shr_z (z *ℤ pos d) d ≡ z
unscaled z d some = ap (λ v. shr_z v d) (sym (plus_zero (z *ℤ pos d))) ∙ floor_is z 0 d some
  where
    plus_zero : (x : ℤ) → x +ℤ pos 0 ≡ x
    plus_zero x = omega (arith, ints)

pub is_scaled : (format : Fmt) (p : ℕ) (z r : ℤ) → SFits (word format) z → r ≡ z *ℤ pos (2 ^ p) → IsScaled format p r
is_scaled format p z r f is =
    let q : (r >> p) ≡ z = ap (λ v. shr_z v (2 ^ p)) is ∙ unscaled z (2 ^ p) (pow_pos p) in
    (subst (SFits (word format)) (sym q) f, is ∙ ap (λ v. v *ℤ pos (2 ^ p)) (sym q))

-- a number of 32 bits that is shifted up in 64 bits
pub shifted_up : (m z : ℤ) (p : ℕ) → SFits w64 m → m ≡ z → SFits w32 z → p ≤ 30 →
    to_z w64 (of_z w64 m * 2 ^ p % 18446744073709551616) ≡ z *ℤ pos (2 ^ p)
shifted_up m z p g is f few =
    let small : 2 ^ p ≤ 2 ^ 30 = pow_mono few in
    let power : SFits w64 (pos (2 ^ p)) = record { sfits = omega (arith, small) } in
    wrapping_mul_is w64 m (pos (2 ^ p)) g power
    ∙ ap (λ v. int_wrap w64 (v *ℤ pos (2 ^ p))) is
    ∙ int_wrap_fits w64 (z *ℤ pos (2 ^ p)) (up_32 z p f few)

-- ---- shifts
-- sums that wrap at 64 bits, of which the low word is taken
wrapped_scaled : (s : ℤ) (p : ℕ) → p ≤ 30
    → int_wrap w32 (shr_z (int_wrap w64 (s *ℤ pos (2 ^ p))) (2 ^ 31)) ≡ int_wrap w32
    (shr_z (int_wrap w64 s) (2 ^ (31 - p)))
wrapped_scaled s p few =
    let e = 2 ^ (p + 1) in
    let all : 31 - p + (p + 1) ≡ 32 = omega (arith, few) in
    let both : 2 ^ (31 - p) * e ≡ 2 ^ 32 = sym (pow-add 2 (31 - p) (p + 1)) ∙ ap (λ k. 2 ^ k) all in
    let t = s *ℤ pos (2 ^ p) in
    let middle : int_wrap w64 (int_wrap w64 t *ℤ pos 2) ≡ int_wrap w64 (int_wrap w64 s *ℤ pos e) =
    int_wrap-mul_left w64 t (pos 2)
    ∙ ap (int_wrap w64) (sym (times_times s (2 ^ p) 2) ∙ ap (λ k. s *ℤ pos k) (sym (pow-add 2 p 1)))
    ∙ sym (int_wrap-mul_left w64 s (pos e)) in
    sym (upper_word (int_wrap w64 t) 2 (2 ^ 31) (omega arith) (omega arith) refl)
    ∙ ap (λ v. int_wrap w32 (shr_z v (2 ^ 32))) middle
    ∙ upper_word (int_wrap w64 s) e (2 ^ (31 - p)) (pow_pos (p + 1)) (pow_pos (31 - p)) both

close_scaled : (format : Fmt) (p : ℕ) (s : ℤ) → p ≤ greatest_biquad_shift format
    → section_close format 0 (s *ℤ pos (2 ^ p)) ≡ section_close format p s
close_scaled Q7 p s few = ap (saturate 16) (shift_scaled s p 15 (omega (arith, few)))
close_scaled Q15 p s few = ap (saturate 16) (shift_scaled s p 15 (omega (arith, few)))
close_scaled Q31 p s few = wrapped_scaled s p few

-- ---- products
negated : (n : ℕ) (z : ℤ) → pos n *ℤ neg_ℤ z ≡ neg_ℤ (pos n *ℤ z)
negated zero z = zero-*ℤ (neg_ℤ z) ∙ sym (ap neg_ℤ (zero-*ℤ z))
negated (suc n) z =
    suc_ℤ-*ℤ (pos n) (neg_ℤ z) ∙ ap (λ v. v +ℤ neg_ℤ z) (negated n z)
    ∙ sym (ap neg_ℤ (suc_ℤ-*ℤ (pos n) z) ∙ neg_ℤ-+ℤ (pos n *ℤ z) z)

product_scaled : (b : ℤ) (n : ℕ) (x : ℤ) → (b *ℤ pos n) *ℤ x ≡ (b *ℤ x) *ℤ pos n
product_scaled b n (pos k) = sym (times_times b n k) ∙ ap (λ m. b *ℤ pos m) (mul_comm n k) ∙ times_times b k n
product_scaled b n (negsuc k) =
    let z = b *ℤ pos (suc k) in
    *ℤ-negsuc (b *ℤ pos n) k
    ∙ ap neg_ℤ (sym (times_times b n (suc k)) ∙ ap (λ m. b *ℤ pos m) (mul_comm n (suc k)) ∙ times_times b (suc k) n ∙
    *ℤ_comm z (pos n))
    ∙ sym (ap (λ v. v *ℤ pos n) (*ℤ-negsuc b k) ∙ *ℤ_comm (neg_ℤ z) (pos n) ∙ negated n z)

five_scaled : (n : ℕ) (p0 p1 p2 p3 p4 : ℤ)
    → p0 *ℤ pos n +ℤ p1 *ℤ pos n +ℤ p2 *ℤ pos n +ℤ (p3 *ℤ pos n +ℤ p4 *ℤ pos n) ≡ (p0 +ℤ p1 +ℤ p2 +ℤ (p3 +ℤ p4)) *ℤ
    pos n
five_scaled n p0 p1 p2 p3 p4 =
    (λ i. sym (sum_times p0 p1 n) i +ℤ p2 *ℤ pos n +ℤ sym (sum_times p3 p4 n) i)
    ∙ ap (λ v. v +ℤ (p3 +ℤ p4) *ℤ pos n) (sym (sum_times (p0 +ℤ p1) p2 n))
    ∙ sym (sum_times (p0 +ℤ p1 +ℤ p2) (p3 +ℤ p4) n)

-- the coefficients of a section, each times 2^p
abbrev scaled_by : ℕ → Section → Section
scaled_by p c = record {
  b0 = c.b0 *ℤ pos (2 ^ p);
  b1 = c.b1 *ℤ pos (2 ^ p);
  b2 = c.b2 *ℤ pos (2 ^ p);
  a1 =
      c.a1 *ℤ pos (2 ^ p);
  a2 = c.a2 *ℤ pos (2 ^ p);
}

-- with these it does without a post shift what it does with one
pub acts_scaled : (format : Fmt) (p : ℕ) (c : Section) → p ≤ greatest_biquad_shift format
    → section_acts format 0 (scaled_by p c) ≡ section_acts format p c
acts_scaled format p c few = ap acts same
  where
    acts : (List ℤ → List ℤ → ℤ) → Behaviour
    acts next = record {
      gives = λ x. outputs next x;
      keeps = λ x. latest x 0 ∷ latest x 1 ∷ latest (outputs next x) 0 ∷ latest (outputs next x) 1 ∷ [];
    }

    same : section_output format 0 (scaled_by p c) ≡ section_output format p c
    same = λ i xs ys.
        let n = 2 ^ p in
        let p0 = c.b0 *ℤ sample xs 0 in
        let p1 = c.b1 *ℤ sample xs 1 in
        let p2 = c.b2 *ℤ sample xs 2 in
        let p3 = c.a1 *ℤ sample ys 0 in
        let p4 = c.a2 *ℤ sample ys 1 in
        (ap (section_close format 0)
        ((λ t. product_scaled c.b0 n (sample xs 0) t +ℤ product_scaled c.b1 n (sample xs 1) t +ℤ product_scaled c.b2 n
        (sample xs 2) t +ℤ (product_scaled c.a1 n (sample ys 0) t +ℤ product_scaled c.a2 n (sample ys 1) t))
        ∙ five_scaled n p0 p1 p2 p3 p4)
        ∙ close_scaled format p (p0 +ℤ p1 +ℤ p2 +ℤ (p3 +ℤ p4)) few) i

-- ---- sums that wrap
within : (z : ℤ) → nat_abs z ≤ 2 ^ 62 → SFits w64 z
within (pos n) small = record { sfits = omega (arith, small) }
within (negsuc n) small = record { sfits = omega (arith, small) }

five_fit : (p0 p1 p2 p3 p4 : ℤ) → nat_abs p0 ≤ 2 ^ 46 → nat_abs p1 ≤ 2 ^ 46 → nat_abs p2 ≤ 2 ^ 46 →
    nat_abs p3 ≤ 2 ^ 46 → nat_abs p4 ≤ 2 ^ 46
    → SFits w64 (p0 +ℤ p1 +ℤ p2 +ℤ (p3 +ℤ p4))
five_fit p0 p1 p2 p3 p4 h0 h1 h2 h3 h4 =
    let two = abs_sum p0 p1 in
    let three = abs_sum (p0 +ℤ p1) p2 in
    let back = abs_sum p3 p4 in
    let all = abs_sum (p0 +ℤ p1 +ℤ p2) (p3 +ℤ p4) in
    within (p0 +ℤ p1 +ℤ p2 +ℤ (p3 +ℤ p4)) (omega (arith, two, three, back, all, h0, h1, h2, h3, h4))

small_16 : (a b : ℤ) → SFits w32 a → SFits w16 b → nat_abs (a *ℤ b) ≤ 2 ^ 46
small_16 a b f g = rw unsigned_abs-mul (mul-le-mul (abs_within w32 a f) (abs_within w16 b g))

-- a sum of products that was wrapped is closed as the sum is
pub close_wrapped : (format : Fmt) (b0 b1 b2 a1 a2 x x1 x2 y1 y2 : ℤ)
    → SFits (scaled_word format) b0 → SFits (scaled_word format) b1 → SFits (scaled_word format) b2 →
    SFits (scaled_word format) a1 → SFits (scaled_word format) a2
    → SFits (word format) x → SFits (word format) x1 → SFits (word format) x2 → SFits (word format) y1 →
    SFits (word format) y2
    → section_close format 0 (wrap w64 (b0 *ℤ x +ℤ b1 *ℤ x1 +ℤ b2 *ℤ x2 +ℤ (a1 *ℤ y1 +ℤ a2 *ℤ y2)))
    ≡ section_close format 0 (b0 *ℤ x +ℤ b1 *ℤ x1 +ℤ b2 *ℤ x2 +ℤ (a1 *ℤ y1 +ℤ a2 *ℤ y2))
close_wrapped Q7 b0 b1 b2 a1 a2 x x1 x2 y1 y2 f0 f1 f2 f3 f4 g0 g1 g2 g3 g4 =
    ap (section_close Q7 0) (int_wrap_fits w64 (b0 *ℤ x +ℤ b1 *ℤ x1 +ℤ b2 *ℤ x2 +ℤ (a1 *ℤ y1 +ℤ a2 *ℤ y2))
    (five_fit (b0 *ℤ x) (b1 *ℤ x1) (b2 *ℤ x2) (a1 *ℤ y1) (a2 *ℤ y2) (small_16 b0 x f0 (byte x g0))
    (small_16 b1 x1 f1 (byte x1 g1)) (small_16 b2 x2 f2 (byte x2 g2)) (small_16 a1 y1 f3 (byte y1 g3))
    (small_16 a2 y2 f4 (byte y2 g4))))
close_wrapped Q15 b0 b1 b2 a1 a2 x x1 x2 y1 y2 f0 f1 f2 f3 f4 g0 g1 g2 g3 g4 =
    ap (section_close Q15 0) (int_wrap_fits w64 (b0 *ℤ x +ℤ b1 *ℤ x1 +ℤ b2 *ℤ x2 +ℤ (a1 *ℤ y1 +ℤ a2 *ℤ y2))
    (five_fit (b0 *ℤ x) (b1 *ℤ x1) (b2 *ℤ x2) (a1 *ℤ y1) (a2 *ℤ y2) (small_16 b0 x f0 g0) (small_16 b1 x1 f1 g1)
    (small_16 b2 x2 f2 g2) (small_16 a1 y1 f3 g3) (small_16 a2 y2 f4 g4)))
close_wrapped Q31 b0 b1 b2 a1 a2 x x1 x2 y1 y2 f0 f1 f2 f3 f4 g0 g1 g2 g3 g4 =
    let sum = b0 *ℤ x +ℤ b1 *ℤ x1 +ℤ b2 *ℤ x2 +ℤ (a1 *ℤ y1 +ℤ a2 *ℤ y2) in
    ap (λ v. int_wrap w32 (shr_z v (2 ^ 31))) (int_wrap_fits w64 (int_wrap w64 sum) (SFits-int_wrap w64 sum))

-- the wrapped sum of wrapped numbers
pub five_wrapped : (p0 p1 p2 p3 p4 : ℤ) → int_wrap w64
    (int_wrap w64 p0 +ℤ int_wrap w64 p1 +ℤ int_wrap w64 p2 +ℤ (int_wrap w64 p3 +ℤ int_wrap w64 p4))
    ≡ int_wrap w64 (p0 +ℤ p1 +ℤ p2 +ℤ (p3 +ℤ p4))
five_wrapped p0 p1 p2 p3 p4 =
    let front = int_wrap-add_same w64 (int_wrap w64 p0 +ℤ int_wrap w64 p1) (p0 +ℤ p1) (int_wrap w64 p2) (two p0 p1) in
    let three : int_wrap w64 (int_wrap w64 p0 +ℤ int_wrap w64 p1 +ℤ int_wrap w64 p2) ≡ int_wrap w64 (p0 +ℤ p1 +ℤ p2) =
    front ∙ int_wrap-add_right w64 (p0 +ℤ p1) p2 in
    int_wrap-add_same w64 (int_wrap w64 p0 +ℤ int_wrap w64 p1 +ℤ int_wrap w64 p2) (p0 +ℤ p1 +ℤ p2)
    (int_wrap w64 p3 +ℤ int_wrap w64 p4) three
    ∙ sym (int_wrap-add_right w64 (p0 +ℤ p1 +ℤ p2) (int_wrap w64 p3 +ℤ int_wrap w64 p4))
    ∙ ap (λ v. int_wrap w64 (p0 +ℤ p1 +ℤ p2 +ℤ v)) (two p3 p4)
    ∙ int_wrap-add_right w64 (p0 +ℤ p1 +ℤ p2) (p3 +ℤ p4)
  where
    two : (a b : ℤ) → int_wrap w64 (int_wrap w64 a +ℤ int_wrap w64 b) ≡ int_wrap w64 (a +ℤ b)
    two a b = int_wrap-add_left w64 a (int_wrap w64 b) ∙ int_wrap-add_right w64 a b
