-- Extremes by an order: which sample is the best, and its first index.
use Rattle.std.specs.Prelude.{◌≡◌, ℕ, ◌<◌, ℤ, List, [], ◌∷◌, length, Option, Some, None, Bool, true, false, int_lt}
use Rattle.std.specs.Prelude.{if◌then◌else◌, FitsSigned}
use Rattle.dsp_defs.specs.Formats.{word}
use Rattle.dsp_defs.specs.Measure.{better_of}
use Rattle.dsp_defs.specs.declared.format.Fmt.{Fmt}
use Rattle.dsp_defs.specs.declared.script.Block.TheVariants.{Max}
use Rattle.dsp_defs.specs.Kept.{Each, IsOfKind, IsTaken, extreme_kinds}

-- whether the first number wins over the second: the lesser one does, or the greater one; none wins over an equal one
abbrev pub wins : Bool → ℤ → ℤ → Bool
wins true a b = int_lt a b
wins false a b = int_lt b a

-- the least or the greatest sample of a signal, and the first index at which it stands
abbrev pub extreme : Bool → List ℤ → Option (ℤ × ℕ)
extreme least [] = None
extreme least (x ∷ xs) = Some (better_of (wins least) x (extreme least xs))

-- the best so far and a sample behind it, at index n: the sample has to win over it
abbrev pub better_behind : Bool → Option (ℤ × ℕ) → ℤ → ℕ → ℤ × ℕ
better_behind least None x n = (x, n)
better_behind least (Some best) x n = if wins least x best.0 then (x, n) else best

-- what an extreme keeps: the best sample and its index, and how many samples there were
pub record ExtremeState : Type 0 where
  pub found : Option (ℤ × ℕ)
  pub count : ℕ

-- that of a signal
abbrev pub extreme_of : Bool → List ℤ → ExtremeState
extreme_of least x = record { found = extreme least x; count = length x }

-- there is an extreme exactly where there was a sample: a number of the format, with an index below their count
abbrev pub IsFound : Fmt → Option (ℤ × ℕ) → ℕ → Type 0
IsFound format None count = count ≡ 0
IsFound format (Some best) count = FitsSigned (word format) best.0 × (best.1 < count)

-- an extreme is found among so many samples; the limit of `min` is the same
abbrev pub IsFew : ℕ → Type 0
IsFew count = IsTaken Max count

-- the numbers are those that an extreme can keep of n samples
abbrev pub KeepsExtreme : Fmt → ℕ → List ℤ → Type 0
KeepsExtreme format n numbers = IsFew n × Each IsOfKind (extreme_kinds format n) numbers
