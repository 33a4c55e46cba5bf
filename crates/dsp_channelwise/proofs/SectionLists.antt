-- Lists of coefficients, section after section.
use Rattle.std.proofs.Common.{◌≡◌, ◌≢◌, sym, refl, ◌-◌, ◌≤◌, ℤ, pos, List, ◌∷◌, get_or, length, drop, take, arith}
use Rattle.std.proofs.lemmas.List.{take_all}
use Rattle.dsp_defs.specs.Biquad.{sections}
use Rattle.dsp_defs.specs.declared.format.Fmt.{Fmt}
use Rattle.dsp_defs.specs.declared.format.Fmt.TheVariants.{Q7, Q15, Q31}

-- six numbers are a section in Q15
pub six : (f : Fmt) (cs : List ℤ) (b0 b1 b2 a1 a2 : ℤ) → f ≡ Q15 → 6 ≤ length cs → b0 ≡ get_or cs 0 (pos 0)
    → b1 ≡ get_or cs 2 (pos 0) → b2 ≡ get_or cs 3 (pos 0) → a1 ≡ get_or cs 4 (pos 0) → a2 ≡ get_or cs 5 (pos 0)
    → sections f cs ≡ record { b0 = b0; b1 = b1; b2 = b2; a1 = a1; a2 = a2 } ∷ sections f
    (take (length cs - 6) (drop 6 cs))
six Q15 (n0 ∷ n1 ∷ n2 ∷ n3 ∷ n4 ∷ n5 ∷ later) b0 b1 b2 a1 a2 is long e0 e1 e2 e3 e4 =
    λ i. record { b0 = sym e0 i; b1 = sym e1 i; b2 = sym e2 i; a1 = sym e3 i; a2 = sym e4 i } ∷ sections Q15
    (sym (take_all (length (n0 ∷ n1 ∷ n2 ∷ n3 ∷ n4 ∷ n5 ∷ later) - 6) later (omega arith)) i)
six Q15 cs b0 b1 b2 a1 a2 is long e0 e1 e2 e3 e4 = absurd (omega (arith, long))
six f cs b0 b1 b2 a1 a2 is long e0 e1 e2 e3 e4 = absurd (cc)

-- and five in Q31
pub five : (f : Fmt) (cs : List ℤ) (b0 b1 b2 a1 a2 : ℤ) → f ≢ Q7 → f ≢ Q15 → 5 ≤ length cs
    → b0 ≡ get_or cs 0 (pos 0) → b1 ≡ get_or cs 1 (pos 0) → b2 ≡ get_or cs 2 (pos 0) → a1 ≡ get_or cs 3 (pos 0)
    → a2 ≡ get_or cs 4 (pos 0) → sections f cs ≡ record { b0 = b0; b1 = b1; b2 = b2; a1 = a1; a2 = a2 } ∷ sections f
    (take (length cs - 5) (drop 5 cs))
five Q7 cs b0 b1 b2 a1 a2 wide not long e0 e1 e2 e3 e4 = absurd (wide refl)
five Q15 cs b0 b1 b2 a1 a2 wide not long e0 e1 e2 e3 e4 = absurd (not refl)
five Q31 (n0 ∷ n1 ∷ n2 ∷ n3 ∷ n4 ∷ later) b0 b1 b2 a1 a2 wide not long e0 e1 e2 e3 e4 =
    λ i. record { b0 = sym e0 i; b1 = sym e1 i; b2 = sym e2 i; a1 = sym e3 i; a2 = sym e4 i } ∷ sections Q31
    (sym (take_all (length (n0 ∷ n1 ∷ n2 ∷ n3 ∷ n4 ∷ later) - 5) later (omega arith)) i)
five Q31 cs b0 b1 b2 a1 a2 wide not long e0 e1 e2 e3 e4 = absurd (omega (arith, long))
