use Rattle.std.proofs.Common.{◌≡◌, ◌∙◌, ap, sym, subst, rules, ℕ, suc, ℤ, pos, List, [], ◌∷◌, Bool, true, eqb, SFits}
use Rattle.std.proofs.Common.{to_z, of_z, to_z-of_z, arith}
use mir.Syntax.{w64}
use Rattle.std.specs.Prelude.{FitsSigned, IsTrue}
use Rattle.std.proofs.lemmas.Bool.Decides.{nat_tests}
use Rattle.dsp_defs.specs.Formats.{word}
use Rattle.dsp_defs.specs.Signal.{sample}
use Rattle.dsp_defs.specs.declared.format.Fmt.{Fmt}
use Rattle.dsp_defs.specs.Kept.{Below, Fixed, IsOfKind}
use Rattle.dsp_measure.specs.Extremes.{IsFew, KeepsExtreme}
use Rattle.dsp_measure.proofs.ExtremeLaws.{four-numbers}
use Rattle.dsp_measure.proofs.extreme_numbers.are_of_some.Goals as goal
use Rattle.dsp_measure.proofs.extreme_numbers.are_of_some.Goals.{then-put-eq1, else-put-eq1}

abbrev HasIndex : ℤ → ℤ → Type 0
HasIndex index count = (n : ℕ) × IsFew (suc n) × IsOfKind (Below (suc n)) index × IsOfKind (Fixed (suc n)) count

abbrev Tells : Fmt → Bool → List ℤ → Type 0
Tells format told numbers = (IsTrue told → (n : ℕ) × KeepsExtreme format (suc n) numbers) ×
    (((n : ℕ) × KeepsExtreme format (suc n) numbers) → IsTrue told)

of-four : (format : Fmt) (told : Bool) (put value index count : ℤ) → put ≡ pos 1 → FitsSigned (word format) value →
    (IsTrue told → HasIndex index count) → (HasIndex index count → IsTrue told) →
    Tells format told (put ∷ value ∷ index ∷ count ∷ [])
of-four format told put value index count one fits from to = (
  λ h. let has = from h in (has.0, (has.1, (one, (fits, (has.2, (has.3, tt)))))),
  λ keeps. to (keeps.0, keeps.1.0, keeps.1.1.1.1.0, keeps.1.1.1.1.1.0),
)

pub returns-then-is_word : goal.returns-then-is_word
returns-then-is_word g c =
    let format = g.T.Sample.format in
    let xs = c.args.numbers.now in
    let whole : xs ≡ sample xs 0 ∷ sample xs 1 ∷ sample xs 2 ∷ sample xs 3 ∷ [] =
    four-numbers xs (omega (arith, c.in-len4.len_at_least, c.in-len4.len_below)) in
    let first : SFits w64 (sample xs 0) = search rules in
    let second : SFits w64 (sample xs 1) = search rules in
    let third : SFits w64 (sample xs 2) = search rules in
    let fourth : SFits w64 (sample xs 3) = search rules in
    elim c.if-put-eq1.branch [
      | then-put-eq1 w ↦ (
          let one : sample xs 0 ≡ pos 1 = sym (to_z-of_z first) ∙ ap (to_z w64) w.if-put-eq1.true in
          let word_fits : IsTrue w.is_word.result = sym w.value-is ∙ c.if-is_word.true in
          let fits : FitsSigned (word format) (sample xs 1) =
          subst (FitsSigned (word format)) (to_z-of_z second) (w.is_word.ensures.0 word_fits) in
          let from : IsTrue c.is_index.result → HasIndex (sample xs 2) (sample xs 3) =
          λ h. subst (λ (p : ℤ × ℤ). HasIndex p.0 p.1) (λ i. (to_z-of_z third i, to_z-of_z fourth i))
          (c.is_index.ensures.0 h) in
          let to : HasIndex (sample xs 2) (sample xs 3) → IsTrue c.is_index.result =
          λ h. c.is_index.ensures.1 (subst (λ (p : ℤ × ℤ). HasIndex p.0 p.1)
          (λ i. (sym (to_z-of_z third) i, sym (to_z-of_z fourth) i)) h) in
          subst (Tells format c.is_index.result) (sym whole)
          (of-four format c.is_index.result (sample xs 0) (sample xs 1) (sample xs 2) (sample xs 3) one fits from
          to))
      | else-put-eq1 w ↦ absurd (w.if-put-eq1.false (same (of_z w64 (sample xs 0))
          (sym w.value-is ∙ c.if-is_word.true)))
    ]
  where
    same : (n : ℕ) → eqb n 1 ≡ true → n ≡ 1
    same n h = grind (arith, nat_tests)
