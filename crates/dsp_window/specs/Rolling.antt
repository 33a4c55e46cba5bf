-- A window that rolls over a signal: the last numbers of the past, and then the current block.
use Rattle.std.specs.Prelude.{ℕ, ◌-◌, ◌≡◌, ℤ, List, ◌++◌, length, drop}
use Rattle.dsp_defs.specs.Streaming.{last_of}

-- the samples of the past and then those of the block, with the past's length and the longest block
pub record Rolling : Type 0 where
  pub past : ℕ
  pub room : ℕ
  pub samples : List ℤ

-- the last n numbers
abbrev pub last_samples : ℕ → List ℤ → List ℤ
last_samples n xs = drop (length xs - n) xs

-- the window shows the last `past` numbers of all that was pushed before, with zeros before the first, and then the
-- block
abbrev pub Shows : Rolling → List ℤ → List ℤ → Type 0
Shows window before block = window.samples ≡ last_of window.past before ++ block
