-- Sums of products at places that lie two apart.
use Rattle.std.specs.Prelude.{ℕ, ◌≡◌, ◌+◌, ℤ, ◌+ℤ◌, ◌*ℤ◌, List, [], ◌∷◌, FitsSigned, length}
use Rattle.std.specs.Simd.Lanes.{Each1}
use Rattle.dsp_defs.specs.Numbers.{Width, wrap, w32}
use Rattle.dsp_defs.specs.Signal.{sample}

-- what the taps j and j+1 give to the sum whose window begins at a place
abbrev pub pair_sum : List ℤ → List ℤ → ℕ → ℕ → ℤ
pair_sum taps window j place = wrap w32 ((sample window place *ℤ sample taps j) +ℤ
    (sample window (place + 1) *ℤ sample taps (j + 1)))

-- the values at four places that lie two apart
abbrev pub four : (ℕ → ℤ) → ℕ → List ℤ
four f place = f place ∷ f (place + 2) ∷ f (place + 4) ∷ f (place + 6) ∷ []

-- two numbers, four times
abbrev pub repeated : ℤ → ℤ → List ℤ
repeated t u = t ∷ u ∷ t ∷ u ∷ t ∷ u ∷ t ∷ u ∷ []

-- the even ones and the odd ones in turn
abbrev pub in_turn : List ℤ → List ℤ → List ℤ
in_turn [] odd = []
in_turn (x ∷ even) [] = []
in_turn (x ∷ even) (y ∷ odd) = x ∷ y ∷ in_turn even odd

-- the even and the odd ones of eight numbers of a width
abbrev pub AreHalves : Width → List ℤ → List ℤ → Type 0
AreHalves w even odd = (Each1 (FitsSigned w) even) × (Each1 (FitsSigned w) odd)
    × (length even ≡ 4) × (length odd ≡ 4)
