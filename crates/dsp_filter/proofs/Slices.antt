-- Pieces of slices, as lists.
use Rattle.std.proofs.Common.{◌≡◌, ◌∙◌, ap, refl, sym, ℕ, ◌+◌, ◌-◌, ◌<◌, ℤ, pos, List, [], ◌∷◌, ◌++◌, length, map}
use Rattle.std.proofs.Common.{take, drop, set, slice_range, arith, length-append, length-drop, length-set, take_all}
use Rattle.std.proofs.Common.{take_at}
use Rattle.std.proofs.lemmas.List.{take-map, drop-map, get_or-drop, get_or-take, take-append-le, take_more_set}
use Rattle.std.proofs.Common.{SFits, to_z, of_z}
use Rattle.std.specs.Int.{w32, w64}
use Rattle.std.proofs.lemmas.Int.{ints}
use Rattle.dsp_defs.specs.Formats.{word}
use Rattle.dsp_defs.specs.Signal.{sample}
use Rattle.dsp_defs.specs.declared.format.Fmt.{Fmt}
use Rattle.dsp_defs.specs.declared.format.Fmt.TheVariants.{Q7, Q15, Q31}

-- a piece of a slice, as numbers
pub sample-piece :
    {X : Type 0} → (number : X → ℤ) (xs : List X) (i m j : ℕ) → j < m →
    sample (map number (slice_range xs i (i + m))) j ≡ sample (map number xs) (i + j)
sample-piece number xs i m j below =
    let size : i + m - i ≡ m = omega arith in
    ap (λ k. sample (map number (take k (drop i xs))) j) size
    ∙ ap (λ l. sample l j) (sym (take-map number m (drop i xs)))
    ∙ get_or-take m (map number (drop i xs)) j (pos 0) below
    ∙ ap (λ l. sample l j) (sym (drop-map number i xs))
    ∙ get_or-drop i (map number xs) j (pos 0)

-- what was written to the front of an output
pub front-written : {X : Type 0} → (count : ℕ) (out old : List X) → length out ≡ count →
    take count (out ++ drop count old) ≡ out
front-written count out old same =
    take-append-le count out (drop count old) (omega arith) ∙ take_all count out (omega arith)

-- a number that was written behind others
pub last-written : (n : ℕ) (front old : List ℤ) (z : ℤ) → length front ≡ n → length old ≡ n + 1 →
    set (front ++ drop n old) n z ≡ front ++ z ∷ []
last-written n front old z first whole =
    let l = front ++ drop n old in
    let long : length l ≡ n + 1 = omega (arith, length-append front (drop n old), length-drop n old) in
    sym (take_all (n + 1) (set l n z) (omega (arith, length-set l n z)))
    ∙ take_more_set l n z (omega arith)
    ∙ ap (λ t. t ++ z ∷ []) (take_at front (drop n old) n first)

-- numbers that were written one by one
pub three-written : (l : List ℤ) (a b c : ℤ) → length l ≡ 3 → set (set (set l 0 a) 1 b) 2 c ≡ a ∷ b ∷ c ∷ []
three-written [] a b c e = absurd (omega (arith, e))
three-written (x ∷ []) a b c e = absurd (omega (arith, e))
three-written (x ∷ y ∷ []) a b c e = absurd (omega (arith, e))
three-written (x ∷ y ∷ z ∷ []) a b c e = refl
three-written (x ∷ y ∷ z ∷ w ∷ l) a b c e = absurd (omega (arith, e))

pub four-written : (l : List ℤ) (a b c d : ℤ) → length l ≡ 4 →
    set (set (set (set l 0 a) 1 b) 2 c) 3 d ≡ a ∷ b ∷ c ∷ d ∷ []
four-written [] a b c d e = absurd (omega (arith, e))
four-written (x ∷ []) a b c d e = absurd (omega (arith, e))
four-written (x ∷ y ∷ []) a b c d e = absurd (omega (arith, e))
four-written (x ∷ y ∷ z ∷ []) a b c d e = absurd (omega (arith, e))
four-written (x ∷ y ∷ z ∷ w ∷ []) a b c d e = refl
four-written (x ∷ y ∷ z ∷ w ∷ v ∷ l) a b c d e = absurd (omega (arith, e))

-- a number of the format that was cast to 32 bits
pub narrow-word : (format : Fmt) (z : ℤ) → SFits (word format) z → to_z w32 (of_z w32 (to_z w64 (of_z w64 z))) ≡ z
narrow-word Q7 z fits = let f : SFits w32 z = record { sfits = omega (arith, fits.sfits) } in omega (arith, ints)
narrow-word Q15 z fits = let f : SFits w32 z = record { sfits = omega (arith, fits.sfits) } in omega (arith, ints)
narrow-word Q31 z fits = omega (arith, ints)
