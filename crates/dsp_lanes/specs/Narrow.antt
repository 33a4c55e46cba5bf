-- Taps whose sums of products stay in 32 bits.
use Rattle.std.specs.Prelude.{◌≤◌, ℤ, List, map, sum, unsigned_abs}

-- |b0| + .. + |b[T-1]| <= 65535: a sum of products with samples of 16 bits is below 2^31
abbrev pub IsNarrow : List ℤ → Type 0
IsNarrow taps = sum (map unsigned_abs taps) ≤ 65535
