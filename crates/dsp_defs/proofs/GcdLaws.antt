-- Euclid's algorithm gives the greatest common divisor.
use Rattle.std.proofs.Common.{ℕ, zero, suc, ◌%◌, ◌<◌, refl, arith}
use Rattle.std.specs.Int.{IsGcd}
use Rattle.std.proofs.lemmas.Nat.Gcd.{IsGcd-from_zero, IsGcd-from_mod}
use Rattle.dsp_defs.specs.Shape.{euclid, gcd}

euclid-IsGcd : (steps a b : ℕ) → b < steps → IsGcd a b (euclid steps a b)
euclid-IsGcd zero a b h = absurd (omega (arith, h))
euclid-IsGcd (suc steps) a zero h = IsGcd-from_zero a 0 refl
euclid-IsGcd (suc steps) a (suc b) h =
    IsGcd-from_mod a (suc b) (euclid steps (suc b) (a % suc b)) (euclid-IsGcd steps (suc b) (a % suc b) (grind arith))

pub gcd-IsGcd : (a b : ℕ) → IsGcd a b (gcd a b)
gcd-IsGcd a b = euclid-IsGcd (suc b) a b (omega arith)
