-- Cascades of second-order sections (biquads), direct form I. The feedback terms are added.
use Rattle.std.specs.Prelude.{ℕ, ◌-◌, ◌+◌, ◌^◌, ℤ, pos, ◌+ℤ◌, ◌*ℤ◌, List, [], ◌∷◌, map, fold}
use Rattle.dsp_defs.specs.Numbers.{◌>>◌, saturate, wrap, w32, w64}
use Rattle.dsp_defs.specs.Signal.{sample, outputs}
use Rattle.dsp_defs.specs.declared.format.Fmt.{Fmt}
use Rattle.dsp_defs.specs.declared.format.Fmt.TheVariants.{Q15, Q31}

-- the coefficients of a section
pub record Section : Type 0 where
  pub b0 : ℤ
  pub b1 : ℤ
  pub b2 : ℤ
  pub a1 : ℤ
  pub a2 : ℤ

-- a section is written b0, 0, b1, b2, a1, a2 in Q15, where the second number is not used, and b0, b1, b2, a1, a2 in Q31
abbrev pub sections : Fmt → List ℤ → List Section
sections Q15 (b0 ∷ unused ∷ b1 ∷ b2 ∷ a1 ∷ a2 ∷ later) =
    record { b0 = b0; b1 = b1; b2 = b2; a1 = a1; a2 = a2 } ∷ sections Q15 later
sections Q15 _ = []
sections format (b0 ∷ b1 ∷ b2 ∷ a1 ∷ a2 ∷ later) = record { b0 = b0; b1 = b1; b2 = b2; a1 = a1; a2 = a2 } ∷ sections
    format later
sections format _ = []

-- b0*x + b1*x1 + b2*x2
abbrev pub forward_sum : Section → List ℤ → ℤ
forward_sum c xs = c.b0 *ℤ sample xs 0 +ℤ c.b1 *ℤ sample xs 1 +ℤ c.b2 *ℤ sample xs 2

-- sat_16(s >> (15-p)), wrap_32(wrap_64(s) >> (31-p))
abbrev pub section_close : Fmt → ℕ → ℤ → ℤ
section_close Q31 p s = wrap w32 (wrap w64 s >> (31 - p))
section_close format p s = saturate 16 (s >> (15 - p))

-- y = close(b0*x + b1*x1 + b2*x2 + a1*y1 + a2*y2)
abbrev pub section_output : Fmt → ℕ → Section → List ℤ → List ℤ → ℤ
section_output format p c xs ys = section_close format p
    (forward_sum c xs +ℤ (c.a1 *ℤ sample ys 0 +ℤ c.a2 *ℤ sample ys 1))

-- one section of a whole signal
abbrev pub biquad_section : Fmt → ℕ → List ℤ → Section → List ℤ
biquad_section format p x c = outputs (section_output format p c) x

-- the sections one after another
abbrev pub biquad : Fmt → ℕ → List ℤ → List ℤ → List ℤ
biquad format p coefficients x = fold (biquad_section format p) x (sections format coefficients)

-- the value that is fed back: Y = wrap_64(acc * 2^(p+1))
abbrev pub fed_back : ℕ → ℤ → ℤ
fed_back p acc = wrap w64 (acc *ℤ pos (2 ^ (p + 1)))

-- acc = wrap_64(b0*x + b1*x1 + b2*x2 + (a1*Y1 >> 32) + (a2*Y2 >> 32))
abbrev pub wide_output : ℕ → Section → List ℤ → List ℤ → ℤ
wide_output p c xs accs = wrap w64 (forward_sum c xs +ℤ (c.a1 *ℤ fed_back p (sample accs 0) >> 32) +ℤ
    (c.a2 *ℤ fed_back p (sample accs 1) >> 32))

-- y = wrap_32(acc >> (31-p))
abbrev pub biquad64_section : ℕ → List ℤ → Section → List ℤ
biquad64_section p x c = map (λ acc. wrap w32 (acc >> (31 - p))) (outputs (wide_output p c) x)

-- the sections one after another
abbrev pub biquad64 : ℕ → List ℤ → List ℤ → List ℤ
biquad64 p coefficients x = fold (biquad64_section p) x (sections Q31 coefficients)
