-- Sums of products over a window.
use Rattle.std.specs.Prelude.{ℕ, ◌+◌, ℤ, ◌≡◌, ◌*ℤ◌, List, length}
use Rattle.dsp_defs.specs.Numbers.{wrap, Width}
use Rattle.dsp_defs.specs.Signal.{sample, sum_below}

-- the sum of `count` taps over the window at a place
abbrev pub row : List ℤ → List ℤ → ℕ → ℕ → ℤ
row taps window count place = sum_below count (λ j. sample taps j *ℤ sample window (place + j))

-- the sum over j of taps[j] * window[place + j]
abbrev pub row_at : List ℤ → List ℤ → ℕ → ℤ
row_at taps window place = row taps window (length taps) place

-- a number is the sum of `count` taps, up to a multiple of the width
abbrev pub IsRow : Width → List ℤ → List ℤ → ℕ → ℕ → ℤ → Type 0
IsRow width taps window count place value = wrap width value ≡ wrap width (row taps window count place)
