-- Sums of a few terms, folds and powers.
use Rattle.std.proofs.Common.{◌≡◌, ap, ℕ, ◌+◌, ◌*◌, ◌^◌, ◌≤◌, ℤ, pos, ◌+ℤ◌, ◌*ℤ◌, SFits, arith, pow_mono}
use Rattle.std.specs.Int.{w64}
use Rattle.std.proofs.Math.IntN.{+ℤ_idl}
use Rattle.std.proofs.lemmas.Int.{ints}

-- a number and itself
pub twice : (z : ℤ) → z +ℤ z ≡ pos 2 *ℤ z
twice z = omega (arith, ints)

-- sums that begin with nothing
pub two-terms : (a b : ℤ) → pos 0 +ℤ a +ℤ b ≡ a +ℤ b
two-terms a b = ap (λ z. z +ℤ b) (+ℤ_idl a)

pub three-terms : (a b c : ℤ) → pos 0 +ℤ a +ℤ b +ℤ c ≡ a +ℤ b +ℤ c
three-terms a b c = ap (λ z. z +ℤ c) (two-terms a b)

-- the power of a post shift fits far within 64 bits
pub power-fits : (p : ℕ) → p ≤ 30 → SFits w64 (pos (2 ^ (p + 1)))
power-fits p few =
    let up : p + 1 ≤ 31 = omega arith in
    let small : 2 ^ (p + 1) ≤ 2 ^ 31 = pow_mono up in
    record { sfits = omega arith }

-- the products of a section, and of those after it
pub section-cost : (before old new length slice all later : ℕ) → all ≡ later + 1 → slice ≡ length
    → new ≤ old + slice * 5 → old + length * (5 * all) ≤ before → new + length * (5 * later) ≤ before
section-cost before old new length slice all later one same made so_far =
    let next : old + length * (5 * (later + 1)) ≤ before = rw one at so_far in
    omega (arith, next, same, made)
