use Rattle.std.proofs.Common.{◌≡◌, ◌∙◌, ap, refl, rules, ℤ, List, [], ◌∷◌, length, set, SFits, to_z-of_z, arith}
use mir.Syntax.{w64}
use Rattle.dsp_measure.proofs.dot.Dot.keep.Goals as goal

one : (xs : List ℤ) (v : ℤ) → length xs ≡ 1 → set xs 0 v ≡ v ∷ []
one [] v e = absurd (omega (arith, e))
one (x ∷ []) v e = refl
one (x ∷ y ∷ xs) v e = absurd (omega (arith, e))

pub returns : goal.returns
returns g c =
    let fits : SFits w64 c.self.inside.sum = search rules in
    rw (to_z-of_z fits) (one c.args.out.now c.self.inside.sum c.requires ∙ ap (λ v. v ∷ []) c.self.view_is)
