-- To wrap on the way changes nothing.
use Rattle.std.proofs.Common.{ℕ, ◌≡◌, ◌<◌, ◌≤◌, ◌+◌, ◌-◌, ◌*◌, ◌/◌, ◌%◌, ◌^◌, suc, Bool, true, false, refl, sym, ap}
use Rattle.std.proofs.Common.{◌∙◌, arith}
use Rattle.std.proofs.lemmas.Int.{ints, int_rem_euclid_is}
use Rattle.std.specs.Prelude.{ℤ, pos, negsuc, ◌+ℤ◌, ◌-ℤ◌, nat_lt, if◌then◌else◌, unsigned_abs}
use Rattle.std.specs.Int.{int_wrap, cast_signed, int_rem_euclid}
use native.Mathlib.Nat.{mul-le-mul_left, mod-lt, div-add-mod'}
use lib.IntN.{+ℤ_comm}
use lib.Pow.{pow_pos}
use borrow.Author.Differences.{up, down, same_in, same_out, sum_is_lem}
use mir.Syntax.{Width, w8, w16, w32, w64, w128}
use mir.Val.{bits}
use Rattle.dsp_lanes.specs.Regrouped.{wrap_bits, signed_word, width_bits}

-- numbers that differ by a multiple of 2^n
pub wrap_bits-congruent : (n : ℕ) (a b : ℤ) (j k : ℕ) → a +ℤ pos (j * 2 ^ n) ≡ b +ℤ pos (k * 2 ^ n) →
    wrap_bits n a ≡ wrap_bits n b
unfolding wrap_bits
wrap_bits-congruent n a b j k e =
    let m = 2 ^ n in
    let some = pow_pos n in
    let t = down a + down b in
    let far : t * 1 ≤ t * m = mul-le-mul_left t some in
    let r = up a + (j + t) * m - down a in
    let from : (z : ℤ) (i : ℕ) → z +ℤ pos ((i + t) * m) ≡ pos r → wrap_bits n z ≡ signed_word n (r % m) =
    λ z i h. ap (λ q. signed_word n (unsigned_abs q)) (int_rem_euclid_is z (pos m) m (i + t) r some refl h) in
    from a j (omega (arith, ints)) ∙ sym (from b k (omega (arith, ints)))

-- how many times 2^n the word's number lies below r
read : (n r : ℕ) → (j : ℕ) × (signed_word n r +ℤ pos (j * 2 ^ n) ≡ pos r)
read n r = by (nat_lt r (2 ^ (n - 1))) refl
  where
    by : (t : Bool) → nat_lt r (2 ^ (n - 1)) ≡ t → (j : ℕ) ×
        ((if t then pos r else (pos r -ℤ pos (2 ^ n))) +ℤ pos (j * 2 ^ n) ≡ pos r)
    by true e = (0, omega (arith, ints))
    by false e = (1, omega (arith, ints))

-- x and what is left of it differ by a multiple of 2^n
pub left : (n : ℕ) (x : ℤ) → (j : ℕ) × (k : ℕ) × (wrap_bits n x +ℤ pos (j * 2 ^ n) ≡ x +ℤ pos (k * 2 ^ n))
unfolding wrap_bits
left n (pos a) =
    let m = 2 ^ n in
    let r = read n (a % m) in
    (r.0 + a / m, 0, omega (arith, same_in, same_out, sum_is_lem, r.1, div-add-mod' a m))
left n (negsuc a) =
    let m = 2 ^ n in
    let small = mod-lt a (pow_pos n) in
    let r = read n (m - 1 - a % m) in
    (r.0, a / m + 1, omega (arith, same_in, same_out, sum_is_lem, r.1, div-add-mod' a m))

pub wrap_bits-add_left : (n : ℕ) (a b : ℤ) → wrap_bits n (wrap_bits n a +ℤ b) ≡ wrap_bits n (a +ℤ b)
wrap_bits-add_left n a b = let l = left n a in wrap_bits-congruent n (wrap_bits n a +ℤ b) (a +ℤ b) l.0 l.1
    (omega (arith, same_in, same_out, sum_is_lem, l.2))

pub wrap_bits-add_right : (n : ℕ) (a b : ℤ) → wrap_bits n (a +ℤ wrap_bits n b) ≡ wrap_bits n (a +ℤ b)
wrap_bits-add_right n a b = ap (wrap_bits n) (+ℤ_comm a _) ∙ wrap_bits-add_left n b a ∙ ap (wrap_bits n) (+ℤ_comm b a)

below_top : (n : ℕ) (x : ℤ) → unsigned_abs (int_rem_euclid x (pos (2 ^ n))) < 2 ^ n
below_top n (pos a) = mod-lt a (pow_pos n)
below_top n (negsuc a) = let some = pow_pos n in omega arith

reads_below : (m r : ℕ) → r < m → pos r -ℤ pos m ≡ negsuc (m - suc r)
reads_below m r h = grind (arith, ints)

reads_as : (w : Width) (r : ℕ) → r < 2 ^ bits w → signed_word (bits w) r ≡ cast_signed w r
reads_as w8 r h = by (nat_lt r (2 ^ 7))
  where
    by : (t : Bool) → (if t then pos r else (pos r -ℤ pos (2 ^ 8))) ≡ (if t then pos r else negsuc (2 ^ 8 - suc r))
    by true = refl
    by false = reads_below (2 ^ 8) r h
reads_as w16 r h = by (nat_lt r (2 ^ 15))
  where
    by : (t : Bool) → (if t then pos r else (pos r -ℤ pos (2 ^ 16))) ≡ (if t then pos r else negsuc (2 ^ 16 - suc r))
    by true = refl
    by false = reads_below (2 ^ 16) r h
reads_as w32 r h = by (nat_lt r (2 ^ 31))
  where
    by : (t : Bool) → (if t then pos r else (pos r -ℤ pos (2 ^ 32))) ≡ (if t then pos r else negsuc (2 ^ 32 - suc r))
    by true = refl
    by false = reads_below (2 ^ 32) r h
reads_as w64 r h = by (nat_lt r (2 ^ 63))
  where
    by : (t : Bool) → (if t then pos r else (pos r -ℤ pos (2 ^ 64))) ≡ (if t then pos r else negsuc (2 ^ 64 - suc r))
    by true = refl
    by false = reads_below (2 ^ 64) r h
reads_as w128 r h = by (nat_lt r (2 ^ 127))
  where
    by : (t : Bool) → (if t then pos r else (pos r -ℤ pos (2 ^ 128))) ≡ (if t then pos r else negsuc (2 ^ 128 - suc r))
    by true = refl
    by false = reads_below (2 ^ 128) r h

-- what the code's wrapping arithmetic leaves
pub wrap_bits-is : (w : Width) (x : ℤ) → wrap_bits (bits w) x ≡ int_wrap w x
unfolding wrap_bits int_wrap
wrap_bits-is w x = reads_as w (unsigned_abs (int_rem_euclid x (pos (2 ^ bits w)))) (below_top (bits w) x)

pub wrap_bits-word : (w : Width) (x : ℤ) → wrap_bits (width_bits w) x ≡ int_wrap w x
wrap_bits-word w8 x = wrap_bits-is w8 x
wrap_bits-word w16 x = wrap_bits-is w16 x
wrap_bits-word w32 x = wrap_bits-is w32 x
wrap_bits-word w64 x = wrap_bits-is w64 x
wrap_bits-word w128 x = wrap_bits-is w128 x
