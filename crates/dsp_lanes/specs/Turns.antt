-- The turns of a loop that takes L elements at a time.
use Rattle.std.specs.Prelude.{ℕ, ◌+◌, ◌/◌, ◌%◌, ◌≡◌, ◌≤◌}
use Rattle.dsp_defs.specs.Counts.{Counts}

-- n / L + n % L: the turns over n elements, L at a time, and the rest one by one
abbrev pub lane_turns : ℕ → ℕ → ℕ
lane_turns L n = n / L + n % L

-- the counter rose by exactly so many products, and by so many turns at most
pub record RisesWithin (old new : Counts) (multiplies turns : ℕ) : Type 0 where
  pub multiplies_rise : new.multiplies ≡ old.multiplies + multiplies
  pub turns_within : new.turns ≤ old.turns + turns
