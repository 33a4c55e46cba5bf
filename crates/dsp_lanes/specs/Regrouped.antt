-- Sums in words of n bits, taken one after another or by lanes.
use Rattle.std.specs.Prelude.{ℕ, suc, zero, ◌-◌, ◌*◌, ◌/◌, ◌^◌, ℤ, pos, ◌+ℤ◌, ◌-ℤ◌, List, [], ◌∷◌, take, drop}
use Rattle.std.specs.Prelude.{replicate, length, nat_lt, if◌then◌else◌, unsigned_abs}
use Rattle.std.specs.Int.{int_rem_euclid}
use Rattle.std.specs.Simd.Lanes.{zip2}
use Rattle.dsp_defs.specs.Numbers.{Width, w8, w16, w32, w64, w128}

-- the number that a word of n bits reads as, with its first bit as the sign
abbrev pub signed_word : ℕ → ℕ → ℤ
signed_word n r = if nat_lt r (2 ^ (n - 1)) then pos r else (pos r -ℤ pos (2 ^ n))

-- the signed number of n bits that is congruent to x modulo 2^n
unfoldable pub wrap_bits : ℕ → ℤ → ℤ
wrap_bits n x = signed_word n (unsigned_abs (int_rem_euclid x (pos (2 ^ n))))

-- the bits of a word
abbrev pub width_bits : Width → ℕ
width_bits w8 = 8
width_bits w16 = 16
width_bits w32 = 32
width_bits w64 = 64
width_bits w128 = 128

-- x1 + .. + xn
abbrev pub list_sum : List ℤ → ℤ
list_sum [] = pos 0
list_sum (x ∷ xs) = x +ℤ list_sum xs

-- s, with each of xs added to it in turn, in a word of n bits
abbrev pub wrapped_sum : ℕ → ℤ → List ℤ → ℤ
wrapped_sum n s [] = s
wrapped_sum n s (x ∷ xs) = wrapped_sum n (wrap_bits n (s +ℤ x)) xs

-- the lanes, after k groups of xs, each of L numbers, were added to them, in words of n bits
abbrev pub lane_sums : ℕ → ℕ → ℕ → List ℤ → List ℤ → List ℤ
lane_sums n L zero lanes xs = lanes
lane_sums n L (suc k) lanes xs = lane_sums n L k (zip2 (λ s x. wrap_bits n (s +ℤ x)) lanes (take L xs)) (drop L xs)

-- xs added by L lanes, and then the lanes and the rest, one after another, in words of n bits
abbrev pub regrouped_sum : ℕ → ℕ → List ℤ → ℤ
regrouped_sum n L xs =
    let groups = length xs / L in
    let lanes = lane_sums n L groups (replicate L (pos 0)) xs in
    wrapped_sum n (wrapped_sum n (pos 0) lanes) (drop (groups * L) xs)
