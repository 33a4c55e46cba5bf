-- A section of a cascade on rows of samples, frame by frame: the terms of its recurrence stand a row apart.
use Rattle.std.specs.Prelude.{ℕ, ◌+◌, ◌*◌, ◌<◌, ◌≡◌, ℤ, ◌+ℤ◌, ◌*ℤ◌, List}
use Rattle.dsp_defs.specs.Biquad.{Section, section_close}
use Rattle.dsp_defs.specs.Signal.{sample}
use Rattle.dsp_defs.specs.declared.format.Fmt.{Fmt}

-- a section of five numbers: b0, b1, b2, a1, a2
abbrev pub five_of : List ℤ → Section
five_of numbers = record {
  b0 = sample numbers 0;
  b1 = sample numbers 1;
  b2 = sample numbers 2;
  a1 =
      sample numbers 3;
  a2 = sample numbers 4;
}

-- the output of a section for its newest sample, the two before it and the last two outputs
abbrev pub next_output : Fmt → ℕ → Section → ℤ → ℤ → ℤ → ℤ → ℤ → ℤ
next_output format p c x x1 x2 y1 y2 = section_close format p
    (c.b0 *ℤ x +ℤ c.b1 *ℤ x1 +ℤ c.b2 *ℤ x2 +ℤ (c.a1 *ℤ y1 +ℤ c.a2 *ℤ y2))

-- the sample of a channel in a frame
abbrev pub cell : ℕ → List ℤ → ℕ → ℕ → ℤ
cell row samples frame channel = sample samples (frame * row + channel)

-- the outputs of a channel follow those of the first two frames, up to a frame
abbrev pub Follows : Fmt → ℕ → Section → ℕ → List ℤ → List ℤ → ℕ → ℕ → Type 0
Follows format p c row inputs outputs count channel =
    (n : ℕ) → n < count → cell row outputs (n + 2) channel
    ≡ next_output format p c (cell row inputs (n + 2) channel) (cell row inputs (n + 1) channel)
    (cell row inputs n channel) (cell row outputs (n + 1) channel) (cell row outputs n channel)

-- a channel of the first `frames` frames is as before
abbrev pub Stays : ℕ → List ℤ → List ℤ → ℕ → ℕ → Type 0
Stays row old new frames channel = (n : ℕ) → n < frames → cell row new n channel ≡ cell row old n channel
