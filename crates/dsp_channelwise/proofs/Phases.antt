-- The taps of a phase, and what they cost.
use Rattle.std.proofs.Common.{◌≡◌, sym, ℕ, ◌+◌, ◌*◌, ◌/◌, ◌<◌, ◌≤◌, ℤ, pos, List, length, subst, arith}
use Rattle.std.proofs.Math.Nat.{mul-le-mul_left, mul-div-le}
use Rattle.std.proofs.lemmas.Int.{to_z-of_z}
use Rattle.std.proofs.lemmas.List.{length-reverse}
use Rattle.std.proofs.lemmas.List.FromFn.{length-map-range_with_len, get_or-map-range_with_len}
use Rattle.dsp_defs.specs.Signal.{sample}
use Rattle.dsp_defs.specs.Sums.{phase_taps}

-- a tap of a phase, and how many it has
pub tap-of-phase : (factor : ℕ) (b : List ℤ) (p k : ℕ) → k < length b / factor → sample (phase_taps factor b p) k
    ≡ sample b (factor * k + p)
tap-of-phase factor b p k inside = get_or-map-range_with_len (λ j. sample b (factor * j + p)) 0
    (length b / factor) k k (pos 0) inside (omega arith)

pub taps-of-phase : (factor : ℕ) (b : List ℤ) (p : ℕ) → length (phase_taps factor b p) ≡ length b / factor
taps-of-phase factor b p = length-map-range_with_len (λ j. sample b (factor * j + p)) 0 (length b / factor)

-- each value takes the taps of its phase
pub phase-cost : (n factor t : ℕ) → n * factor * (t / factor) ≤ n * t
phase-cost n factor t =
    let same : n * factor * (t / factor) ≡ n * (factor * (t / factor)) = grind arith in
    subst (λ m. m ≤ n * t) (sym same) (mul-le-mul_left n (mul-div-le t factor))

pub ruleset phases = (to_z-of_z, tap-of-phase, taps-of-phase, phase-cost, length-reverse)
