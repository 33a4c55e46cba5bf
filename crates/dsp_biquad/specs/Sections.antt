-- What sections do with a signal, and cascades of them.
use Rattle.std.specs.Prelude.{ℕ, ◌-◌, ◌*◌, ◌%◌, ◌≤◌, ◌≡◌, ℤ, List, [], ◌∷◌, ◌++◌, map, length, All, FitsSigned}
use Rattle.dsp_defs.specs.Formats.{word}
use Rattle.dsp_defs.specs.Signal.{sample, outputs}
use Rattle.dsp_defs.specs.Biquad.{Section, biquad_section, biquad64_section, fed_back, wide_output}
use Rattle.dsp_defs.specs.Parameters.{greatest_biquad_shift}
use Rattle.dsp_defs.specs.Numbers.{w32, w64}
use Rattle.dsp_defs.specs.Kept.{Kind, latest, in_words, kept_of_channel}
use Rattle.dsp_unit.specs.Filter.{of_channel}
use Rattle.dsp_defs.specs.Streaming.{Behaviour, then}
use Rattle.dsp_defs.specs.declared.format.Fmt.{Fmt}
use Rattle.dsp_defs.specs.declared.format.Fmt.TheVariants.{Q15, Q31}
use Rattle.dsp_defs.specs.declared.script.Block.{Block}
use Rattle.dsp_defs.specs.declared.script.Block.TheVariants.{Biquad, Biquad64}

-- ---- one section

-- it gives its outputs, and keeps x1, x2, y1, y2
abbrev pub section_acts : Fmt → ℕ → Section → Behaviour
section_acts format p c = record {
  gives = λ x. biquad_section format p x c;
  keeps = λ x. latest x 0 ∷ latest x 1 ∷ latest (biquad_section format p x c) 0 ∷ latest (biquad_section format p x c)
      1 ∷ [];
}

-- with the wide feedback it keeps x1, x2, Y1, Y2
abbrev pub wide_acts : ℕ → Section → Behaviour
wide_acts p c = record {
  gives = λ x. biquad64_section p x c;
  keeps = λ x. latest x 0 ∷ latest x 1 ∷ latest (map (fed_back p) (outputs (wide_output p c) x)) 0 ∷ latest
      (map (fed_back p) (outputs (wide_output p c) x)) 1 ∷ [];
}

-- how many numbers a section has in a list: b0, 0, b1, b2, a1, a2 in Q15, else b0, b1, b2, a1, a2
abbrev pub size_in : Fmt → ℕ
size_in Q15 = 6
size_in format = 5

-- the section of so many numbers
abbrev pub section_of : ℕ → List ℤ → Section
section_of size numbers = record {
  b0 = sample numbers 0;
  b1 = sample numbers (size - 4);
  b2 =
      sample numbers (size - 3);
  a1 = sample numbers (size - 2);
  a2 = sample numbers (size - 1);
}

-- the kinds of the numbers that a wide section keeps
abbrev pub wide_kinds : List Kind
wide_kinds = in_words w32 2 ++ in_words w64 2

-- ---- a block

-- what a block does with a channel
abbrev pub block_acts : Fmt → Block → Behaviour
block_acts format block = record { gives = of_channel format block; keeps = kept_of_channel format block }

-- a block of sections is the section of its first numbers, and then the block of the rest
abbrev pub IsCascade : Fmt → (List ℤ → Block) → ℕ → (List ℤ → Behaviour) → Type 0
IsCascade format block size section = (front rest : List ℤ) → length front ≡ size →
    block_acts format (block (front ++ rest)) ≡ then (section front) (block_acts format (block rest))

-- ---- the parameters of a block

abbrev pub post_shift_of : Block → ℕ
post_shift_of (Biquad p numbers) = p
post_shift_of (Biquad64 p numbers) = p
post_shift_of block = 0

abbrev pub coefficients_of : Block → List ℤ
coefficients_of (Biquad p numbers) = numbers
coefficients_of (Biquad64 p numbers) = numbers
coefficients_of block = []

-- the post shift and the list of a block fit the format, with so many numbers in a section and at most 64 sections
pub record AreParameters (format : Fmt) (greatest size p : ℕ) (numbers : List ℤ) : Type 0 where
  pub shift : p ≤ greatest
  pub in_format : All (FitsSigned (word format)) numbers
  pub whole : length numbers % size ≡ 0
  pub few : length numbers ≤ 64 * size

abbrev pub IsBiquadIn : Fmt → Block → Type 0
IsBiquadIn format (Biquad p numbers) = AreParameters format (greatest_biquad_shift format) (size_in format) p numbers
IsBiquadIn format block = ⊥

abbrev pub IsBiquad64 : Block → Type 0
IsBiquad64 (Biquad64 p numbers) = AreParameters Q31 30 5 p numbers
IsBiquad64 block = ⊥

-- what a contract sees of a cascade
pub record CascadeState : Type 0 where
  pub post_shift : ℕ
  pub coefficients : List ℤ
  pub kept : List ℤ
