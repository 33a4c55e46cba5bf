use Rattle.std.proofs.Common.{◌≡◌, ◌∙◌, ap, rules, ◌*ℤ◌, ◌+ℤ◌, ◌-◌, SFits}
use Rattle.std.specs.Int.{w32, w64}
use Rattle.std.proofs.lemmas.Int.{to_z-of_z}
use Rattle.dsp_defs.specs.Biquad.{fed_back}
use Rattle.dsp_defs.specs.Numbers.{◌>>◌, wrap}
use Rattle.dsp_biquad.proofs.SectionSteps.{wide-step}
use Rattle.dsp_biquad.proofs.section64.Section64MachineI32.step.Goals as goal

pub returns-clause-goes : goal.returns-clause-goes
returns-clause-goes g c =
    let s = c.args.self.now in
    let p = s.post_shift in
    let x = c.args.x in
    let fits_x : SFits w32 x = c.ranges.x in
    let fits_b0 : SFits w32 s.b0 = search rules in
    let fits_b1 : SFits w32 s.b1 = search rules in
    let fits_b2 : SFits w32 s.b2 = search rules in
    let fits_a1 : SFits w32 s.a1 = search rules in
    let fits_a2 : SFits w32 s.a2 = search rules in
    let fits_x1 : SFits w32 s.x1 = search rules in
    let fits_x2 : SFits w32 s.x2 = search rules in
    let fits_y1 : SFits w64 s.y1 = search rules in
    let fits_y2 : SFits w64 s.y2 = search rules in
    let fits_newest : SFits w64 c.product-newest.result = search rules in
    let fits_second : SFits w64 c.product-second.result = search rules in
    let fits_third : SFits w64 c.product-third.result = search rules in
    let fits_fourth : SFits w64 c.mult32x64-fourth.result = search rules in
    let fits_fifth : SFits w64 c.mult32x64-fifth.result = search rules in
    let fits_sum : SFits w64 c.wrapped_five-sum.result = search rules in
    let fits_back : SFits w64 c.fed_back-self.result = search rules in
    let fits_y : SFits w32 c.fraction31.result = search rules in
    let newest : c.product-newest.result ≡ s.b0 *ℤ x = simp to_z-of_z at c.product-newest.ensures.value in
    let second : c.product-second.result ≡ s.b1 *ℤ s.x1 = simp to_z-of_z at c.product-second.ensures.value in
    let third : c.product-third.result ≡ s.b2 *ℤ s.x2 = simp to_z-of_z at c.product-third.ensures.value in
    let fourth : c.mult32x64-fourth.result ≡ (s.a1 *ℤ s.y1 >> 32) =
    simp to_z-of_z at c.mult32x64-fourth.ensures.value in
    let fifth : c.mult32x64-fifth.result ≡ (s.a2 *ℤ s.y2 >> 32) = simp to_z-of_z at c.mult32x64-fifth.ensures.value in
    let sum = simp to_z-of_z at c.wrapped_five-sum.ensures.in_turn in
    let acc = c.wrapped_five-sum.result in
    let acc_is = sum ∙ (λ i. wrap w64 (newest i +ℤ second i +ℤ third i +ℤ fourth i +ℤ fifth i)) in
    let back = to_z-of_z w64 c.fed_back-self.result fits_back ∙ c.fed_back-self.ensures ∙
    ap (fed_back p) (to_z-of_z w64 acc fits_sum) in
    let y = to_z-of_z w32 c.fraction31.result fits_y ∙ c.fraction31.ensures ∙
    ap (λ v. wrap w32 (v >> (31 - p))) (to_z-of_z w64 acc fits_sum) in
    rw (to_z-of_z w32 x fits_x, to_z-of_z w32 s.x1 fits_x1, back, to_z-of_z w64 s.y1 fits_y1, y)
    (wide-step p (record { b0 = s.b0; b1 = s.b1; b2 = s.b2; a1 = s.a1; a2 = s.a2 }) s.x1 s.x2 s.y1 s.y2 x acc acc_is)
