use Rattle.std.proofs.Common.{◌≡◌, ◌∙◌, ap, sym, subst, Some, refl, rules, ℤ, pos, List, [], ◌∷◌, length, set, SFits}
use Rattle.std.proofs.Common.{to_z, to_z-of_z, arith}
use mir.Syntax.{w32, w64}
use Rattle.std.proofs.lemmas.Int.{to_z_pos}
use Rattle.dsp_defs.specs.Kept.{extreme_kept}
use Rattle.dsp_measure.specs.Extremes.{IsFound, KeepsExtreme}
use Rattle.dsp_measure.proofs.ExtremeLaws.{keeps-found}
use Rattle.dsp_measure.proofs.extreme_numbers.write_extreme.Goals as goal
use Rattle.dsp_sat.proofs.WideProducts.{word-in-32}

four : (xs : List ℤ) (p q r s : ℤ) → length xs ≡ 4 → set (set (set (set xs 0 p) 1 q) 2 r) 3 s ≡ p ∷ q ∷ r ∷ s ∷ []
four [] p q r s e = absurd (omega (arith, e))
four (a ∷ []) p q r s e = absurd (omega (arith, e))
four (a ∷ b ∷ []) p q r s e = absurd (omega (arith, e))
four (a ∷ b ∷ d ∷ []) p q r s e = absurd (omega (arith, e))
four (a ∷ b ∷ d ∷ f ∷ []) p q r s e = refl
four (a ∷ b ∷ d ∷ f ∷ h ∷ xs) p q r s e = absurd (omega (arith, e))

pub returns-in-Some-clause-numbers : goal.returns-in-Some-clause-numbers
returns-in-Some-clause-numbers g c =
    let value = c.in-Some.value in
    let index = c.in-Some.index in
    let found : IsFound g.T.Sample.format (Some (value, index)) c.args.count =
    subst (λ f. IsFound g.T.Sample.format f c.args.count) c.in-Some.is c.requires.found in
    let word : SFits w32 value = word-in-32 g.T.Sample.format value found.0 in
    let read : c.from.result ≡ value = c.from.ensures ∙ to_z-of_z word in
    let fits : SFits w64 c.from.result = search rules in
    let first : to_z w64 index ≡ pos index = to_z_pos w64 index (omega (arith, found.1, c.requires.few)) in
    let last : to_z w64 c.args.count ≡ pos c.args.count = to_z_pos w64 c.args.count (omega (arith, c.requires.few)) in
    rw (to_z-of_z fits, first, last)
    (four c.args.out.now (pos 1) c.from.result (pos index) (pos c.args.count) c.requires.room
    ∙ ap (λ v. pos 1 ∷ v ∷ pos index ∷ pos c.args.count ∷ []) read
    ∙ ap (λ f. extreme_kept f c.args.count) (sym c.in-Some.is))

pub returns-in-Some-clause-fits : goal.returns-in-Some-clause-fits
returns-in-Some-clause-fits g c =
    subst (KeepsExtreme g.T.Sample.format c.args.count) (sym (returns-in-Some-clause-numbers g c))
    (keeps-found g.T.Sample.format c.args.found c.args.count c.requires.few c.requires.found)
