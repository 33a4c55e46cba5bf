use Rattle.std.proofs.Common.{◌≡◌, ◌∙◌, ap, refl, rules, ℤ, List, [], ◌∷◌, length, set, SFits, to_z-of_z, arith}
use mir.Syntax.{w64}
use Rattle.dsp_measure.proofs.cmplx_dot.CmplxDot.keep.Goals as goal

two : (xs : List ℤ) (v w : ℤ) → length xs ≡ 2 → set (set xs 0 v) 1 w ≡ v ∷ w ∷ []
two [] v w e = absurd (omega (arith, e))
two (x ∷ []) v w e = absurd (omega (arith, e))
two (x ∷ y ∷ []) v w e = refl
two (x ∷ y ∷ z ∷ xs) v w e = absurd (omega (arith, e))

pub returns : goal.returns
returns g c =
    let re : SFits w64 c.self.inside.re = search rules in
    let im : SFits w64 c.self.inside.im = search rules in
    rw (to_z-of_z re, to_z-of_z im) (two c.args.out.now c.self.inside.re c.self.inside.im c.requires ∙
    ap (λ (v : ℤ × ℤ). v.0 ∷ v.1 ∷ []) c.self.view_is)
