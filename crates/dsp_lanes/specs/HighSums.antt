-- Sums in two parts: wrapped to 32 bits, and the sum of the high halves of what was added, less 1.
use Rattle.std.specs.Prelude.{ℕ, ◌*◌, ◌≡◌, ◌<◌, ◌≤◌, ℤ, pos, negsuc, ◌+ℤ◌, ◌*ℤ◌, List, FitsSigned, length, unsigned_abs}
use Rattle.std.specs.Simd.Lanes.{Each1, Each2, zip2}
use Rattle.dsp_defs.specs.Numbers.{wrap, w32}

-- what a sum has beyond its high part: low - 2^16 * high
abbrev pub rest_of : ℤ → ℤ → ℤ
rest_of low high = wrap w32 (low +ℤ (high *ℤ negsuc 65535))

-- the sum
abbrev pub whole_of : ℤ → ℤ → ℤ
whole_of low high = (high *ℤ pos 65536) +ℤ rest_of low high

abbrev pub wholes : List ℤ → List ℤ → List ℤ
wholes low high = zip2 whole_of low high

-- the parts of a sum of at most n numbers
pub record AreParts (n : ℕ) (low high : ℤ) : Type 0 where
  pub rest : ℕ
  pub rest_is : rest_of low high ≡ pos rest
  pub rest_small : rest ≤ n * 65536
  pub high_small : unsigned_abs high ≤ n * 32768

-- the parts of four sums of at most n numbers, so few that no part leaves its word
pub record AreHighSums (n : ℕ) (low high : List ℤ) : Type 0 where
  pub few : n < 32768
  pub low_fits : Each1 (FitsSigned w32) low
  pub high_fits : Each1 (FitsSigned w32) high
  pub low_long : length low ≡ 4
  pub high_long : length high ≡ 4
  pub parts : Each2 (AreParts n) low high
