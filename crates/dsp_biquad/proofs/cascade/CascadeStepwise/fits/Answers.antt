use Rattle.std.proofs.Common.{◌≡◌, ◌∙◌, ap, sym, subst, ℕ, List, length, map, flat_map, rules, vec_len}
use Rattle.std.specs.List.{range_with_len}
use Rattle.dsp_defs.specs.Kept.{Kind, Each, IsOfKind}
use Rattle.dsp_biquad.proofs.cascade.CascadeStepwise.fits.Goals as goal

pub returns : goal.returns
returns g c =
    let sections = c.self.inside.sections in
    let kinds = g.S.CascadeSection.kinds in
    let numbers = c.args.numbers.now in
    let p = c.self.inside.post_shift in
    let coefficients = map g.T.Sample.number c.self.inside.coefficients.items in
    let long : vec_len sections ≡ length sections.items = search rules in
    let same = ap (λ (n : ℕ). flat_map (λ (_ : ℕ). kinds) (range_with_len 0 n))
    (c.len.ensures ∙ long ∙ c.self.invariant.1) ∙ sym (g.met.S.CascadeSection.kinds_are p coefficients) in
    let P : List Kind → Type 0 = λ ks. Each IsOfKind ks numbers in
    rw (← c.self.view_is) (
      (λ yes. subst P same (c.fits_sections.ensures.0 yes)),
      (λ each. c.fits_sections.ensures.1 (subst P (sym same) each)),
    )
