use Rattle.std.proofs.Common.{◌≡◌, ◌∙◌, ap, sym, subst, rules, ℤ, [], ◌∷◌, ◌+ℤ◌, ◌*ℤ◌, SFits, to_z, of_z}
use Rattle.std.specs.Int.{w64}
use Rattle.std.proofs.lemmas.Int.{to_z-of_z}
use Rattle.dsp_defs.specs.Biquad.{section_close}
use Rattle.dsp_defs.specs.Formats.{word}
use Rattle.dsp_defs.specs.Numbers.{wrap}
use Rattle.dsp_defs.specs.Streaming.{GoesOn}
use Rattle.dsp_biquad.specs.Sections.{section_acts}
use Rattle.dsp_biquad.proofs.Packed.{read}
use Rattle.dsp_biquad.proofs.Scaled.{close_wrapped, five_wrapped, of_scaled}
use Rattle.dsp_biquad.proofs.SectionSteps.{section-step}
use Rattle.dsp_biquad.proofs.section.SectionMachine.step.Goals as goal

-- a product of two numbers that are given in 64 bits
product : (p a b x y : ℤ) → SFits w64 p → a ≡ x → b ≡ y → p ≡ wrap w64 (a *ℤ b) →
    to_z w64 (of_z w64 p) ≡ wrap w64 (x *ℤ y)
product p a b x y f is_a is_b is = to_z-of_z w64 p f ∙ is ∙ (λ i. wrap w64 (is_a i *ℤ is_b i))

pub returns-clause-goes : goal.returns-clause-goes
returns-clause-goes g c =
    let format = g.T.Sample.format in
    let s = c.args.self.now in
    let x = g.T.Sample.number c.args.x in
    let y = g.T.Sample.number c.closed-y.result in
    let x_is = read format c.from-x0.result c.number.result x c.number.ensures.fits c.from-x0.ensures
    c.number.ensures.value in
    let y_is = read format c.from-self.result c.number-2.result y c.number-2.ensures.fits
    c.from-self.ensures c.number-2.ensures.value in
    let b0 = to_z-of_z w64 s.b0 (search rules) in
    let b1 = to_z-of_z w64 s.b1 (search rules) in
    let b2 = to_z-of_z w64 s.b2 (search rules) in
    let a1 = to_z-of_z w64 s.a1 (search rules) in
    let a2 = to_z-of_z w64 s.a2 (search rules) in
    let x1 = to_z-of_z w64 s.x1 (search rules) in
    let x2 = to_z-of_z w64 s.x2 (search rules) in
    let y1 = to_z-of_z w64 s.y1 (search rules) in
    let y2 = to_z-of_z w64 s.y2 (search rules) in
    let newest = product _ _ _ _ _ (search rules) b0 x_is c.wrapped_product-newest.ensures.value in
    let second = product _ _ _ _ _ (search rules) b1 x1 c.wrapped_product-second.ensures.value in
    let third = product _ _ _ _ _ (search rules) b2 x2 c.wrapped_product-third.ensures.value in
    let fourth = product _ _ _ _ _ (search rules) a1 y1 c.wrapped_product-fourth.ensures.value in
    let fifth = product _ _ _ _ _ (search rules) a2 y2 c.wrapped_product-fifth.ensures.value in
    let sum = to_z-of_z w64 c.wrapped_five.result (search rules) ∙ c.wrapped_five.ensures.paired
    ∙ (λ i. wrap w64 (newest i +ℤ second i +ℤ third i +ℤ (fourth i +ℤ fifth i)))
    ∙ five_wrapped (s.b0 *ℤ x) (s.b1 *ℤ s.x1) (s.b2 *ℤ s.x2) (s.a1 *ℤ s.y1) (s.a2 *ℤ s.y2) in
    let closed = c.closed-y.ensures ∙ ap (section_close format 0) sum
    ∙ close_wrapped format s.b0 s.b1 s.b2 s.a1 s.a2 x s.x1 s.x2 s.y1 s.y2
    (of_scaled format s.post_shift s.b0 s.b0_fits s.shift) (of_scaled format s.post_shift s.b1 s.b1_fits s.shift)
    (of_scaled format s.post_shift s.b2 s.b2_fits s.shift) (of_scaled format s.post_shift s.a1 s.a1_fits s.shift)
    (of_scaled format s.post_shift s.a2 s.a2_fits s.shift)
    (subst (SFits (word format)) c.number.ensures.value c.number.ensures.fits) s.x1_fits s.x2_fits s.y1_fits s.y2_fits
    in
    let goes = section-step format 0 (record { b0 = s.b0; b1 = s.b1; b2 = s.b2; a1 = s.a1; a2 = s.a2 }) s.x1 s.x2 s.y1
    s.y2 x y closed in
    let acts = section_acts format 0 (record { b0 = s.b0; b1 = s.b1; b2 = s.b2; a1 = s.a1; a2 = s.a2 }) in
    subst (λ l. GoesOn acts.gives acts.keeps (s.x1 ∷ s.x2 ∷ s.y1 ∷ s.y2 ∷ []) l (x ∷ []) (y ∷ []))
    (λ i. sym x_is i ∷ sym x1 i ∷ sym y_is i ∷ sym y1 i ∷ []) goes
