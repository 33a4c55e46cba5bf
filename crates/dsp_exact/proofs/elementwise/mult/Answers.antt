use Rattle.std.proofs.Common.{◌∙◌, ap, sym, subst, pos, ◌*ℤ◌, SFits, to_z, of_z, lit<}
use Rattle.std.specs.Int.{w32, w64, w128}
use Rattle.std.specs.Prelude.{FitsSigned}
use Rattle.std.proofs.lemmas.Int.{to_z-of_z}
use Rattle.dsp_sat.proofs.Words.{product_shift-is, product_shift_fits}
use Rattle.dsp_defs.specs.Elementwise.{mult}
use Rattle.dsp_defs.specs.Formats.{word, word_bits}
use Rattle.dsp_defs.specs.Numbers.{saturate, ◌>>◌}
use Rattle.dsp_exact.proofs.Exact.{floor-is, high-is, twice-fits}
use Rattle.dsp_exact.proofs.elementwise.mult.Goals as goal

pub returns-in-Q7-clause-value : goal.returns-in-Q7-clause-value
returns-in-Q7-clause-value g c =
    let p = c.product-p in
    let r = c.saturate in
    let high = product_shift-is w128 w32 c.args.a c.args.b p.result 7 c.ranges.a c.ranges.b
    (record { sfits = p.type_inv })
    p.ensures.value in
    to_z-of_z w32 r.result (record { sfits = r.type_inv })
    ∙ r.ensures.value
    ∙ (λ i. saturate (word_bits (c.in-Q7.is i)) (high i))
    ∙ ap (λ f. mult f c.args.a c.args.b) (sym c.in-Q7.is)

pub returns-in-Q7-clause-fits : goal.returns-in-Q7-clause-fits
returns-in-Q7-clause-fits g c =
    let r = c.saturate in
    subst (FitsSigned (word c.args.format)) (sym (to_z-of_z w32 r.result
    (record { sfits = r.type_inv }))) r.ensures.fits

pub returns-in-Q15-clause-value : goal.returns-in-Q15-clause-value
returns-in-Q15-clause-value g c =
    let p = c.product-p in
    let r = c.saturate-in-Q15 in
    let high = product_shift-is w128 w32 c.args.a c.args.b p.result 15 c.ranges.a c.ranges.b
    (record { sfits = p.type_inv })
    p.ensures.value in
    to_z-of_z w32 r.result (record { sfits = r.type_inv })
    ∙ r.ensures.value
    ∙ (λ i. saturate (word_bits (c.in-Q15.is i)) (high i))
    ∙ ap (λ f. mult f c.args.a c.args.b) (sym c.in-Q15.is)

pub returns-in-Q15-clause-fits : goal.returns-in-Q15-clause-fits
returns-in-Q15-clause-fits g c =
    let r = c.saturate-in-Q15 in
    subst (FitsSigned (word c.args.format)) (sym (to_z-of_z w32 r.result
    (record { sfits = r.type_inv }))) r.ensures.fits

pub overflow_cast-floor_shift : goal.overflow_cast-floor_shift
overflow_cast-floor_shift g c =
    let p = c.product-p in
    let v = c.floor_shift in
    let high = floor-is c.args.a c.args.b p.result v.result 32 c.ranges.a c.ranges.b (record { sfits = p.type_inv })
    (record { sfits = v.type_inv }) p.ensures.value v.ensures in
    subst (SFits w64) (sym high) (product_shift_fits w64 w32 w32 c.args.a c.args.b 32 c.ranges.a c.ranges.b (lit< tt))

pub overflow_mul-result : goal.overflow_mul-result
overflow_mul-result g c =
    let p = c.product-p in
    let v = c.floor_shift in
    let r = c.sat31 in
    let high = high-is c.args.a c.args.b p.result v.result r.result c.ranges.a c.ranges.b
    (record { sfits = p.type_inv })
    (record { sfits = v.type_inv }) (record { sfits = r.type_inv }) p.ensures.value v.ensures r.ensures in
    subst (λ z. SFits w32 (pos 2 *ℤ z)) (sym high) (twice-fits (c.args.a *ℤ c.args.b >> 32))

pub returns-in-Q31-clause-value : goal.returns-in-Q31-clause-value
returns-in-Q31-clause-value g c =
    let p = c.product-p in
    let v = c.floor_shift in
    let r = c.sat31 in
    let high = high-is c.args.a c.args.b p.result v.result r.result c.ranges.a c.ranges.b
    (record { sfits = p.type_inv })
    (record { sfits = v.type_inv }) (record { sfits = r.type_inv }) p.ensures.value v.ensures r.ensures in
    ap (λ z. to_z w32 (of_z w32 (pos 2 *ℤ z))) high
    ∙ to_z-of_z w32 _ (twice-fits (c.args.a *ℤ c.args.b >> 32))
    ∙ ap (λ f. mult f c.args.a c.args.b) (sym c.in-Q31.is)

pub returns-in-Q31-clause-fits : goal.returns-in-Q31-clause-fits
returns-in-Q31-clause-fits g c =
    subst (FitsSigned (word c.args.format)) (sym (returns-in-Q31-clause-value g c))
    (subst (λ f. FitsSigned (word f) (mult f c.args.a c.args.b)) (sym c.in-Q31.is)
    (twice-fits (c.args.a *ℤ c.args.b >> 32)))
