-- A sum in 64 bits that is shifted and then wrapped to 32: it does not matter whether it was wrapped before.
use Rattle.std.proofs.Common.{◌≡◌, ◌∙◌, ap, sym, ℕ, suc, ◌+◌, ◌-◌, ◌*◌, ◌/◌, ◌%◌, ◌^◌, ◌<◌, ◌≤◌, ℤ, pos, negsuc, ◌+ℤ◌}
use Rattle.std.proofs.Common.{arith, to_z, ⊎_elim}
use Rattle.std.specs.Int.{w32, w64, int_wrap}
use Rattle.std.specs.Int.Signed.{shr_z}
use Rattle.std.proofs.lemmas.Int.{ints, int_wrap-add_right}
use Rattle.std.proofs.lemmas.Bool.{cases_lt}
use Rattle.std.proofs.lemmas.Nat.{div-mul-add, mod-mul-add, div-add-mod', mod_below, mul-le, pow-add, pow_pos}
use Rattle.dsp_defs.specs.Numbers.{◌>>◌, wrap}
use mir.Val.{hbits}
use mir.ValLaws.{to_z-neg}

-- a number and its wrapped one lie a multiple of 2^64 apart
residue : (n : ℕ) → n < 18446744073709551616 → (j : ℕ) × (to_z w64 n +ℤ pos (j * 18446744073709551616) ≡ pos n)
residue n below =
    ⊎_elim
    (λ (low : n < 9223372036854775808). let small : n < 2 ^ hbits w64 = low in (0, omega (arith, ints)))
    (λ (high : 9223372036854775808 ≤ n).
    let k = 18446744073709551616 - 1 - n in
    let near : k < 9223372036854775808 = omega arith in
    let back : 18446744073709551616 - suc k ≡ n = omega arith in
    let read : to_z w64 n ≡ negsuc k = ap (to_z w64) (sym back) ∙ to_z-neg w64 k near in
    (1, omega (arith, ints, read)))
    (cases_lt n 9223372036854775808)

apart : (s : ℤ) → (j : ℕ) × (k : ℕ) × (int_wrap w64 s +ℤ pos (j * 18446744073709551616) ≡ s +ℤ pos
    (k * 18446744073709551616))
unfolding int_wrap
apart (pos a) =
    let r = residue (a % 18446744073709551616) (mod_below a 18446744073709551616 (omega arith)) in
    (r.0 + a / 18446744073709551616, 0, omega (arith, ints, r.1, div-add-mod' a 18446744073709551616))
apart (negsuc a) =
    let small = mod_below a 18446744073709551616 (omega arith) in
    let r = residue (18446744073709551616 - 1 - a % 18446744073709551616) (omega (arith, small)) in
    (r.0, 1 + a / 18446744073709551616, omega (arith, ints, r.1, small, div-add-mod' a 18446744073709551616))

-- a multiple of the divisor
shr-more : (z : ℤ) (m q : ℕ) → 0 < m → shr_z (z +ℤ pos (q * m)) m ≡ shr_z z m +ℤ pos q
shr-more (pos a) m q some =
    let small = mod_below a m some in
    let whole : a + q * m ≡ (a / m + q) * m + a % m = omega (arith, div-add-mod' a m) in
    ap pos (ap (λ n. n / m) whole ∙ div-mul-add (a / m + q) m (a % m) small)
shr-more (negsuc a) m q some =
    let small = mod_below a m some in
    ⊎_elim
    (λ (before : a < q * m).
    let sum : negsuc a +ℤ pos (q * m) ≡ pos (q * m - 1 - a) = omega (arith, ints) in
    let count : a / m < q = below (a / m) q m (a % m) (omega (arith, before, div-add-mod' a m)) in
    let d = q - 1 - a / m in
    let parts : q ≡ a / m + 1 + d = omega (arith, count) in
    let times : q * m ≡ (a / m + 1 + d) * m = ap (λ n. n * m) parts in
    let whole : q * m - 1 - a ≡ d * m + (m - 1 - a % m) = omega (arith, small, times, div-add-mod' a m) in
    ap (λ t. shr_z t m) sum ∙ ap (λ n. pos (n / m)) whole ∙
    ap pos (div-mul-add d m (m - 1 - a % m) (omega (arith, small))) ∙ omega (arith, ints, parts))
    (λ (after : q * m ≤ a).
    let sum : negsuc a +ℤ pos (q * m) ≡ negsuc (a - q * m) = omega (arith, ints) in
    let count : q < a / m + 1 = below q (a / m + 1) m 0 (omega (arith, after, small, div-add-mod' a m)) in
    let d = a / m - q in
    let parts : a / m ≡ q + d = omega (arith, count) in
    let times : a / m * m ≡ (q + d) * m = ap (λ n. n * m) parts in
    let whole : a - q * m ≡ d * m + a % m = omega (arith, times, div-add-mod' a m) in
    ap (λ t. shr_z t m) sum ∙ ap (λ n. negsuc (n / m)) whole ∙ ap negsuc (div-mul-add d m (a % m) small) ∙
    omega (arith, ints, parts))
    (cases_lt a (q * m))
  where
    -- a smaller multiple is of fewer
    below : (x y n r : ℕ) → x * n + r < y * n → x < y
    below x y n r h =
        ⊎_elim (λ (less : x < y). less) (λ (more : y ≤ x). absurd
        (omega (arith, h, mul-le y n x n more (omega arith)))) (cases_lt x y)

-- a multiple of 2^32
multiple : (q : ℕ) → int_wrap w32 (pos (q * 4294967296)) ≡ pos 0
unfolding int_wrap
multiple q =
    let none : q * 4294967296 % 4294967296 ≡ 0 = ap (λ n. n % 4294967296) (omega arith) ∙
    mod-mul-add q 4294967296 0 (omega arith) in
    ap (λ n. to_z w32 n) none

wrap-more : (z : ℤ) (q : ℕ) → int_wrap w32 (z +ℤ pos (q * 4294967296)) ≡ int_wrap w32 z
wrap-more z q =
    sym (int_wrap-add_right w32 z (pos (q * 4294967296)))
    ∙ ap (λ t. int_wrap w32 (z +ℤ t)) (multiple q)
    ∙ ap (int_wrap w32) (omega (arith, ints))

pub shifted-wrap : (s : ℤ) (k : ℕ) → k ≤ 15 → wrap w32 (wrap w64 s >> k) ≡ wrap w32 (s >> k)
shifted-wrap s k small =
    let (j, i, e) = apart s in
    let m = 2 ^ k in
    let c = 2 ^ (32 - k) in
    let some : 0 < m = pow_pos k in
    let all : 32 - k + k ≡ 32 = omega arith in
    let parts : c * m ≡ 4294967296 = sym (pow-add 2 (32 - k) k) ∙ ap (λ n. 2 ^ n) all in
    let power : 18446744073709551616 ≡ c * 4294967296 * m = sym (ap (λ n. n * 4294967296) parts) ∙ omega arith in
    let scaled : (n : ℕ) → n * 18446744073709551616 ≡ n * c * 4294967296 * m = λ n. ap (λ t. n * t) power ∙
    omega arith in
    let moved : shr_z (int_wrap w64 s) m +ℤ pos (j * c * 4294967296) ≡ shr_z s m +ℤ pos (i * c * 4294967296) =
    sym (shr-more (int_wrap w64 s) m (j * c * 4294967296) some)
    ∙ ap (λ t. shr_z (int_wrap w64 s +ℤ pos t) m) (sym (scaled j))
    ∙ ap (λ t. shr_z t m) e
    ∙ ap (λ t. shr_z (s +ℤ pos t) m) (scaled i)
    ∙ shr-more s m (i * c * 4294967296) some in
    sym (wrap-more (shr_z (int_wrap w64 s) m) (j * c)) ∙ ap (int_wrap w32) moved ∙ wrap-more (shr_z s m) (i * c)
