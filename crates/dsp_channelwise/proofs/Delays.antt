-- Delays as natural numbers.
use Rattle.std.proofs.Common.{◌≡◌, ℕ, ◌<◌, ℤ, pos, List, length, map, get_or}
use Rattle.std.specs.Prelude.{nat_abs}
use Rattle.std.proofs.lemmas.List.{get_or-map}

-- delay k
pub delay_is : (delays : List ℤ) (k : ℕ) → k < length delays →
    get_or (map nat_abs delays) k 0 ≡ nat_abs (get_or delays k (pos 0))
delay_is delays k inside = get_or-map nat_abs delays k (pos 0) 0 inside
