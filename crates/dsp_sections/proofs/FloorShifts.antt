-- Floors of shifts, in parts: what a shift leaves of h * 2^(e + k) + r, and of s * 2^e that wraps.
use Rattle.std.proofs.Common.{ℕ, zero, suc, ◌≡◌, ◌<◌, ◌≤◌, ◌+◌, ◌-◌, ◌*◌, ◌/◌, ◌%◌, ◌^◌, sym, ap, ◌∙◌, arith, w32, w64}
use Rattle.std.proofs.lemmas.Int.{ints}
use Rattle.std.proofs.lemmas.Nat.{div-add-mod', mod_below, mul-add-lt}
use Rattle.std.specs.Prelude.{ℤ, pos, negsuc, neg_ℤ, ◌+ℤ◌, ◌-ℤ◌, ◌*ℤ◌}
use Rattle.std.specs.Int.{int_wrap}
use native.Mathlib.Nat.{div-eq_of_lt-le}
use lib.IntN.{*ℤ_comm, *ℤ-zero, suc_ℤ-*ℤ, pos-*ℤ-pos, negsuc-*ℤ-pos}
use lib.Signed.{shr_z}
use mir.Val.{SFits, of_z}
use Rattle.dsp_lanes.proofs.WordLemmas.{left, wrap_bits-is, wrap_bits-congruent}
use Rattle.dsp_lanes.proofs.Fractions.{floored}

-- ---- multiples
times_more : (z : ℤ) (n : ℕ) → z *ℤ pos (suc n) ≡ z *ℤ pos n +ℤ z
times_more z n = *ℤ_comm z (pos (suc n)) ∙ suc_ℤ-*ℤ (pos n) z ∙ ap (λ x. x +ℤ z) (*ℤ_comm (pos n) z)

plus_zero : (x : ℤ) → x +ℤ pos 0 ≡ x
plus_zero x = omega (arith, ints)

third : (x y z : ℤ) → (x +ℤ y) +ℤ z ≡ x +ℤ (y +ℤ z)
third x y z = omega (arith, ints)

crossed : (p q x y : ℤ) → (p +ℤ q) +ℤ (x +ℤ y) ≡ (p +ℤ x) +ℤ (q +ℤ y)
crossed p q x y = omega (arith, ints)

times_sum : (z : ℤ) (a b : ℕ) → z *ℤ pos (a + b) ≡ z *ℤ pos a +ℤ z *ℤ pos b
times_sum z a zero = ap (λ n. z *ℤ pos n) (let none : a + 0 ≡ a = omega arith in none)
    ∙ sym (ap (λ x. z *ℤ pos a +ℤ x) (*ℤ-zero z) ∙ plus_zero (z *ℤ pos a))
times_sum z a (suc b) =
    ap (λ n. z *ℤ pos n) (let one : a + suc b ≡ suc (a + b) = omega arith in one)
    ∙ times_more z (a + b)
    ∙ ap (λ x. x +ℤ z) (times_sum z a b)
    ∙ third (z *ℤ pos a) (z *ℤ pos b) z
    ∙ ap (λ x. z *ℤ pos a +ℤ x) (sym (times_more z b))

pub times_times : (z : ℤ) (a b : ℕ) → z *ℤ pos (a * b) ≡ (z *ℤ pos a) *ℤ pos b
times_times z a zero = ap (λ n. z *ℤ pos n) (let none : a * 0 ≡ 0 = omega arith in none) ∙ *ℤ-zero z
    ∙ sym (*ℤ-zero (z *ℤ pos a))
times_times z a (suc b) =
    let whole : a * suc b ≡ a * b + a = omega arith in
    ap (λ n. z *ℤ pos n) whole ∙ times_sum z (a * b) a ∙ ap (λ x. x +ℤ z *ℤ pos a) (times_times z a b)
    ∙ sym (times_more (z *ℤ pos a) b)

pub sum_times : (x y : ℤ) (n : ℕ) → (x +ℤ y) *ℤ pos n ≡ x *ℤ pos n +ℤ y *ℤ pos n
sum_times x y zero = *ℤ-zero (x +ℤ y) ∙ sym ((λ t. *ℤ-zero x t +ℤ *ℤ-zero y t) ∙ plus_zero (pos 0))
sum_times x y (suc n) =
    times_more (x +ℤ y) n ∙ ap (λ z. z +ℤ (x +ℤ y)) (sum_times x y n) ∙ crossed (x *ℤ pos n) (y *ℤ pos n) x y
    ∙ sym (λ t. times_more x n t +ℤ times_more y n t)

-- ---- floors
-- the only number that leaves less than d
pub floor_is : (q : ℤ) (m d : ℕ) → m < d → shr_z (q *ℤ pos d +ℤ pos m) d ≡ q
floor_is (pos b) m zero small = absurd (omega (arith, small))
floor_is (pos b) m (suc d) small =
    let n = b * suc d + m in
    let part : n / suc d ≡ b = div-eq_of_lt-le (suc d) (omega arith) (omega (arith, small)) in
    ap (λ z. shr_z (z +ℤ pos m) (suc d)) (pos-*ℤ-pos b (suc d)) ∙ ap pos part
floor_is (negsuc b) m zero small = absurd (omega (arith, small))
floor_is (negsuc b) m (suc d) small =
    let n = b * suc d + (d - m) in
    let less : m ≤ d = omega (arith, small) in
    let whole : suc b * suc d ≡ b * suc d + suc d = omega arith in
    let part : n / suc d ≡ b = div-eq_of_lt-le (suc d) (omega arith) (omega (arith, less)) in
    ap (λ z. shr_z (z +ℤ pos m) (suc d)) (negsuc-*ℤ-pos b (suc d) ∙ ap (λ x. neg_ℤ (pos x)) whole)
    ∙ ap (λ z. shr_z z (suc d)) (turned (b * suc d) d m less)
    ∙ ap negsuc part
  where
    turned : (x d m : ℕ) → m ≤ d → neg_ℤ (pos (x + suc d)) +ℤ pos m ≡ negsuc (x + (d - m))
    turned x d m less = omega (arith, ints, less)

-- a multiple of e * d, and a number
pub floor_parts : (h : ℤ) (r e d : ℕ) → 0 < d → shr_z (h *ℤ pos (e * d) +ℤ pos r) d ≡ h *ℤ pos e +ℤ pos (r / d)
floor_parts h r e d some =
    ap (λ z. shr_z z d) (split ∙ rejoined)
    ∙ floor_is (h *ℤ pos e +ℤ pos (r / d)) (r % d) d (mod_below r d some)
  where
    split : h *ℤ pos (e * d) +ℤ pos r ≡ (h *ℤ pos e) *ℤ pos d +ℤ (pos (r / d) *ℤ pos d +ℤ pos (r % d))
    split = (λ t. times_times h e d t +ℤ ((ap pos (sym (div-add-mod' r d))
        ∙ ap (λ x. x +ℤ pos (r % d)) (sym (pos-*ℤ-pos (r / d) d))) t))

    rejoined : (h *ℤ pos e) *ℤ pos d +ℤ (pos (r / d) *ℤ pos d +ℤ pos (r % d)) ≡ (h *ℤ pos e +ℤ pos (r / d)) *ℤ pos d +ℤ
        pos (r % d)
    rejoined = sym (third ((h *ℤ pos e) *ℤ pos d) (pos (r / d) *ℤ pos d) (pos (r % d)))
        ∙ ap (λ x. x +ℤ pos (r % d)) (sym (sum_times (h *ℤ pos e) (pos (r / d)) d))

-- ---- a number that is moved up, wraps, and is moved down
lifted_is : (y z q : ℤ) (r j k : ℕ) → y +ℤ pos (j * 2 ^ 64) ≡ z +ℤ pos (k * 2 ^ 64) → z ≡ q *ℤ pos (2 ^ 32) +ℤ pos r
    → y ≡ ((q +ℤ pos (k * 2 ^ 32)) -ℤ pos (j * 2 ^ 32)) *ℤ pos (2 ^ 32) +ℤ pos r
lifted_is y z q r j k far is = omega (arith, ints, far, is)

level : (q : ℤ) (j k : ℕ) → ((q +ℤ pos (k * 2 ^ 32)) -ℤ pos (j * 2 ^ 32)) +ℤ pos (j * 2 ^ 32) ≡ q +ℤ pos (k * 2 ^ 32)
level q j k = omega (arith, ints)

-- where d * e is 2^32: the upper word of s * e, which wraps, is the low word of s shifted down by d
pub upper_word : (s : ℤ) (e d : ℕ) → 0 < e → 0 < d → d * e ≡ 2 ^ 32
    → int_wrap w32 (shr_z (int_wrap w64 (s *ℤ pos e)) (2 ^ 32)) ≡ int_wrap w32 (shr_z s d)
upper_word s e d some_e some_d both =
    let q = shr_z s d in
    let f = floored s d some_d in
    let m = f.0 in
    let z = s *ℤ pos e in
    let y = int_wrap w64 z in
    let l = left 64 z in
    let far : y +ℤ pos (l.0 * 2 ^ 64) ≡ z +ℤ pos (l.1 * 2 ^ 64) = ap (λ v. v +ℤ pos (l.0 * 2 ^ 64))
    (sym (wrap_bits-is w64 z)) ∙ l.2 in
    let spread : z ≡ q *ℤ pos (2 ^ 32) +ℤ pos (m * e) =
    ap (λ v. v *ℤ pos e) f.2
    ∙ sum_times (q *ℤ pos d) (pos m) e
    ∙ (λ t. sym (times_times q d e) t +ℤ pos-*ℤ-pos m e t)
    ∙ ap (λ n. q *ℤ pos n +ℤ pos (m * e)) both in
    let below : m * e + 0 < e * d = mul-add-lt m e 0 d f.1 some_e in
    let small : m * e < 2 ^ 32 = omega (arith, below, both) in
    let lifted = (q +ℤ pos (l.1 * 2 ^ 32)) -ℤ pos (l.0 * 2 ^ 32) in
    ap (λ v. int_wrap w32 (shr_z v (2 ^ 32))) (lifted_is y z q (m * e) l.0 l.1 far spread)
    ∙ ap (int_wrap w32) (floor_is lifted (m * e) (2 ^ 32) small)
    ∙ sym (wrap_bits-is w32 lifted)
    ∙ wrap_bits-congruent 32 lifted q l.0 l.1 (level q l.0 l.1)
    ∙ wrap_bits-is w32 q

-- the low word, without its sign, is the same word
pub unsigned_word : (z : ℤ) → SFits w64 z → int_wrap w32 (pos (of_z w64 z % 2 ^ 32)) ≡ int_wrap w32 z
unsigned_word (pos a) f =
    sym (wrap_bits-is w32 (pos (a % 2 ^ 32)))
    ∙ wrap_bits-congruent 32 (pos (a % 2 ^ 32)) (pos a) (a / 2 ^ 32) 0 (omega (arith, ints, div-add-mod' a (2 ^ 32)))
    ∙ wrap_bits-is w32 (pos a)
unsigned_word (negsuc a) f =
    let x = 2 ^ 64 - suc a in
    let h = f.sfits in
    sym (wrap_bits-is w32 (pos (x % 2 ^ 32)))
    ∙ wrap_bits-congruent 32 (pos (x % 2 ^ 32)) (negsuc a) (x / 2 ^ 32) (2 ^ 32)
    (omega (arith, ints, h, div-add-mod' x (2 ^ 32)))
    ∙ wrap_bits-is w32 (negsuc a)
