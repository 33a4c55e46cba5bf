-- The numbers of four sections in lanes, and out of them.
use Rattle.std.proofs.Common.{◌≡◌, ◌∙◌, ap, sym, refl, subst, ℕ, zero, suc, ◌≤◌, ◌^◌, ℤ, pos, ◌*ℤ◌, List, [], ◌∷◌}
use Rattle.std.proofs.Common.{map, length, SFits, to_z, of_z, to_z-of_z, arith}
use Rattle.std.specs.Int.{w32, w64, int_wrap}
use Rattle.std.specs.Simd.Lanes.{Each1}
use Rattle.std.proofs.lemmas.Int.{int_wrap_fits}
use Rattle.dsp_defs.specs.Formats.{word}
use Rattle.dsp_defs.specs.Numbers.{◌>>◌}
use Rattle.dsp_defs.specs.Parameters.{greatest_biquad_shift}
use Rattle.dsp_defs.specs.declared.format.Fmt.{Fmt}
use Rattle.dsp_defs.specs.declared.format.Fmt.TheVariants.{Q7, Q15, Q31}
use Rattle.dsp_sat.proofs.WideProducts.{word-in-32}
use Rattle.dsp_sections.specs.SectionWaves.{low, AreWords}
use Rattle.dsp_sections.proofs.FourSections.{back, back_fits, words_back}
use Rattle.dsp_biquad.specs.Scaled.{IsScaled}
use Rattle.dsp_biquad.specs.Sections.{section_acts}
use Rattle.dsp_biquad.proofs.Scaled.{acts_scaled, of_scaled, scaled_word}

word-is : (format : Fmt) (z : ℤ) → SFits (word format) z → int_wrap w32 z ≡ z
word-is format z f = int_wrap_fits w32 z (word-in-32 format z f)

-- numbers of a format and scaled coefficients have 64 bits
wide-number : (format : Fmt) (z : ℤ) → SFits (word format) z → SFits w64 z
wide-number format z f = let narrow = word-in-32 format z f in record { sfits = omega (arith, narrow.sfits) }

wide-coefficient : (format : Fmt) (p : ℕ) (b : ℤ) → p ≤ greatest_biquad_shift format → IsScaled format p b → SFits w64 b
wide-coefficient format p b few is = by format (of_scaled format p b is few)
  where
    by : (format : Fmt) → SFits (scaled_word format) b → SFits w64 b
    by Q7 f = record { sfits = omega (arith, f.sfits) }
    by Q15 f = record { sfits = omega (arith, f.sfits) }
    by Q31 f = f

nothing-fits : (format : Fmt) → SFits (word format) (pos 0)
nothing-fits format = record { sfits = search arith }

-- four numbers of a format in a list, and the same list as lanes
pub record AreFour (format : Fmt) (lanes : List ℤ) (a b c d : ℤ) : Type 0 where
  pub wide : Each1 (SFits w64) lanes
  pub is : lanes ≡ a ∷ b ∷ c ∷ d ∷ []
  pub first : SFits (word format) a
  pub second : SFits (word format) b
  pub third : SFits (word format) c
  pub fourth : SFits (word format) d

module _ (format : Fmt) (lanes : List ℤ) (a b c d : ℤ) (f : AreFour format lanes a b c d) where
  words : (i : ℕ) → SFits (word format) (low (a ∷ b ∷ c ∷ d ∷ []) i)
  words zero = subst (SFits (word format)) (sym (word-is format a f.first)) f.first
  words (suc zero) = subst (SFits (word format)) (sym (word-is format b f.second)) f.second
  words (suc (suc zero)) = subst (SFits (word format)) (sym (word-is format c f.third)) f.third
  words (suc (suc (suc zero))) = subst (SFits (word format)) (sym (word-is format d f.fourth)) f.fourth
  words (suc (suc (suc (suc i)))) = subst (SFits (word format)) (sym (word-is format (pos 0) (nothing-fits format)))
      (nothing-fits format)

  whole : AreWords format (a ∷ b ∷ c ∷ d ∷ [])
  whole = record { four = refl; wide = subst (λ (l : List ℤ). Each1 (SFits w64) l) f.is f.wide; words = words }

  pub four-words : AreWords format (map (to_z w64) (map (of_z w64) lanes))
  four-words = words_back format lanes (subst (λ (l : List ℤ). AreWords format l) (sym f.is) whole)

  at : (i : ℕ) → low (map (to_z w64) (map (of_z w64) lanes)) i ≡ low (a ∷ b ∷ c ∷ d ∷ []) i
  at i = ap (λ (l : List ℤ). low l i) (back lanes f.wide ∙ f.is)

  pub low-first : low (map (to_z w64) (map (of_z w64) lanes)) 0 ≡ a
  low-first = at 0 ∙ word-is format a f.first

  pub low-second : low (map (to_z w64) (map (of_z w64) lanes)) 1 ≡ b
  low-second = at 1 ∙ word-is format b f.second

  pub low-third : low (map (to_z w64) (map (of_z w64) lanes)) 2 ≡ c
  low-third = at 2 ∙ word-is format c f.third

  pub low-fourth : low (map (to_z w64) (map (of_z w64) lanes)) 3 ≡ d
  low-fourth = at 3 ∙ word-is format d f.fourth

-- a section whose coefficients have the post shift in them, by those that do not
pub plain-acts : (format : Fmt) (p : ℕ) → p ≤ greatest_biquad_shift format → (b0 b1 b2 a1 a2 l0 l1 l2 l3 l4 : ℤ)
    → b0 ≡ l0 *ℤ pos (2 ^ p) → b1 ≡ l1 *ℤ pos (2 ^ p) → b2 ≡ l2 *ℤ pos (2 ^ p) → a1 ≡ l3 *ℤ pos (2 ^ p) →
    a2 ≡ l4 *ℤ pos (2 ^ p)
    → section_acts format p (record { b0 = l0; b1 = l1; b2 = l2; a1 = l3; a2 = l4 }) ≡ section_acts format 0
    (record { b0 = b0; b1 = b1; b2 = b2; a1 = a1; a2 = a2 })
plain-acts format p few b0 b1 b2 a1 a2 l0 l1 l2 l3 l4 e0 e1 e2 e3 e4 =
    sym (acts_scaled format p (record { b0 = l0; b1 = l1; b2 = l2; a1 = l3; a2 = l4 }) few)
    ∙ (λ i. section_acts format 0 (record {
      b0 = sym e0 i;
      b1 = sym e1 i;
      b2 = sym e2 i;
      a1 = sym e3 i;
      a2 =
          sym e4 i;
    }))

-- a coefficient of another section with the same post shift
pub moved : (format : Fmt) (p q : ℕ) (b : ℤ) → q ≡ p → IsScaled format q b → IsScaled format p b
moved format p q b same is = subst (λ (n : ℕ). IsScaled format n b) same is

-- coefficients of four sections without the post shift
pub coefficients : (format : Fmt) (p : ℕ) → p ≤ greatest_biquad_shift format → (lanes : List ℤ) (a b c d : ℤ)
    → IsScaled format p a → IsScaled format p b → IsScaled format p c → IsScaled format p d → Each1 (SFits w64) lanes
    → lanes ≡ (to_z w64 (of_z w64 a) >> p) ∷ (to_z w64 (of_z w64 b) >> p) ∷ (to_z w64 (of_z w64 c) >> p) ∷
    (to_z w64 (of_z w64 d) >> p) ∷ []
    → AreFour format lanes (a >> p) (b >> p) (c >> p) (d >> p)
coefficients format p few lanes a b c d sa sb sc sd wide is = record {
  wide = wide;
  is = is ∙ (λ i. shifted a sa i ∷ shifted b sb i ∷ shifted c sc i ∷ shifted d sd i ∷ []);
  first = sa.0;
  second = sb.0;
  third = sc.0;
  fourth = sd.0;
}
  where
    shifted : (b : ℤ) → IsScaled format p b → (to_z w64 (of_z w64 b) >> p) ≡ (b >> p)
    shifted b is = ap (λ z. z >> p) (to_z-of_z (wide-coefficient format p b few is))

-- numbers of four sections
pub numbers : (format : Fmt) (lanes : List ℤ) (a b c d : ℤ) → SFits (word format) a → SFits (word format) b →
    SFits (word format) c → SFits (word format) d → Each1 (SFits w64) lanes
    → lanes ≡ to_z w64 (of_z w64 a) ∷ to_z w64 (of_z w64 b) ∷ to_z w64 (of_z w64 c) ∷ to_z w64 (of_z w64 d) ∷ []
    → AreFour format lanes a b c d
numbers format lanes a b c d wa wb wc wd wide is = record {
  wide = wide;
  is = is ∙ (λ i. again a wa i ∷ again b wb i ∷ again c wc i ∷ again d wd i ∷ []);
  first = wa;
  second = wb;
  third = wc;
  fourth = wd;
}
  where
    again : (z : ℤ) → SFits (word format) z → to_z w64 (of_z w64 z) ≡ z
    again z f = to_z-of_z (wide-number format z f)

-- a sample in 64 bits
pub read : (format : Fmt) (m n z : ℤ) → SFits (word format) n → m ≡ to_z w32 (of_z w32 n) → n ≡ z →
    to_z w64 (of_z w64 m) ≡ z
read format m n z fits is is_z =
    let same : m ≡ n = is ∙ to_z-of_z (word-in-32 format n fits) in
    to_z-of_z (subst (SFits w64) (sym same) (wide-number format n fits)) ∙ same ∙ is_z

-- a number with the bits of a sample
pub same-bits : (format : Fmt) (y m n z : ℤ) → SFits (word format) y → of_z w64 y ≡ of_z w64 m → SFits (word format) n →
    m ≡ to_z w32 (of_z w32 n) → n ≡ z → y ≡ z
same-bits format y m n z fits same fits_n is is_z =
    sym (to_z-of_z (wide-number format y fits)) ∙ ap (to_z w64) same ∙ read format m n z fits_n is is_z

-- four lanes that were passed on
pub passed : (format : Fmt) (lanes : List ℤ) → AreWords format lanes →
    (length (map (to_z w64) (map (of_z w64) lanes)) ≡ 4) × Each1 (SFits w64) (map (to_z w64) (map (of_z w64) lanes))
passed format lanes words = (ap length (back lanes words.wide) ∙ words.four, back_fits lanes words.wide)

-- a number that is taken out of its lane
pub number-is : (format : Fmt) (lanes : List ℤ) (lane : ℕ) (m : ℤ) → AreWords format lanes →
    m ≡ low (map (to_z w64) (map (of_z w64) lanes)) lane → m ≡ low lanes lane
number-is format lanes lane m words is = is ∙ ap (λ (l : List ℤ). low l lane) (back lanes words.wide)

-- and is a sample
module _ (format : Fmt) (lanes : List ℤ) (lane : ℕ) (m : ℤ) (words : AreWords format lanes)
    (is : m ≡ low (map (to_z w64) (map (of_z w64) lanes)) lane) where
  same : m ≡ low lanes lane
  same = number-is format lanes lane m words is

  pub number-wide : SFits w64 m
  number-wide = subst (SFits w64) (sym same) (wide-number format (low lanes lane) (words.words lane))

  pub sample-is : to_z w64 (of_z w64 m) ≡ low lanes lane
  sample-is = to_z-of_z number-wide ∙ same

  pub sample-fits : SFits (word format) (to_z w64 (of_z w64 m))
  sample-fits = subst (SFits (word format)) (sym sample-is) (words.words lane)

  pub narrow : SFits w32 (to_z w64 (of_z w64 m))
  narrow = subst (SFits w32) (sym sample-is) (word-in-32 format (low lanes lane) (words.words lane))

  pub cast-is : to_z w32 (of_z w32 (to_z w64 (of_z w64 m))) ≡ low lanes lane
  cast-is = to_z-of_z narrow ∙ sample-is

  pub cast-fits : SFits (word format) (to_z w32 (of_z w32 (to_z w64 (of_z w64 m))))
  cast-fits = subst (SFits (word format)) (sym cast-is) (words.words lane)
