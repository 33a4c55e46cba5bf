-- Signed numbers that are cast to another width, and read back.
use Rattle.std.proofs.Common.{◌≡◌, ℤ, pos, negsuc, ap, ◌∙◌, arith, to_z, of_z, w32, w64}
use Rattle.std.specs.Prelude.{◌≤ℤ◌, FitsSigned}
use Rattle.std.specs.Int.{w128}
use Rattle.std.proofs.lemmas.Int.{ints, to_z-of_z}

pub fits_64 : (n : ℤ) → FitsSigned w32 n → FitsSigned w64 n
fits_64 n h = record { sfits = omega arith }

fits_128 : (n : ℤ) → FitsSigned w32 n → FitsSigned w128 n
fits_128 n h = record { sfits = omega arith }

pub fits_between : (low high n : ℤ) → FitsSigned w32 low → FitsSigned w32 high → low ≤ℤ n → n ≤ℤ high → FitsSigned w32 n
fits_between low (pos b) (pos n) l h least most = record { sfits = omega (arith, ints, h.sfits) }
fits_between low (negsuc b) (pos n) l h least most = absurd (omega (arith, ints))
fits_between (negsuc a) high (negsuc n) l h least most = record { sfits = omega (arith, ints, l.sfits) }
fits_between (pos a) high (negsuc n) l h least most = absurd (omega (arith, ints))

pub read_back_64 : (m n : ℤ) → m ≡ to_z w32 (of_z w32 n) → FitsSigned w32 n → to_z w64 (of_z w64 m) ≡ n
read_back_64 m n e f = ap (λ (z : ℤ). to_z w64 (of_z w64 z)) (e ∙ to_z-of_z w32 n f) ∙ to_z-of_z w64 n (fits_64 n f)

pub read_back_128 : (m n : ℤ) → m ≡ to_z w32 (of_z w32 n) → FitsSigned w32 n → to_z w128 (of_z w128 m) ≡ n
read_back_128 m n e f = ap (λ (z : ℤ). to_z w128 (of_z w128 z)) (e ∙ to_z-of_z w32 n f) ∙
    to_z-of_z w128 n (fits_128 n f)
