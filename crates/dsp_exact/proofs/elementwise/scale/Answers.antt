use Rattle.std.proofs.Common.{◌∙◌, ap, sym, subst, pos, ◌-ℤ◌, ◌*ℤ◌, rules}
use Rattle.std.specs.Int.{w32}
use Rattle.std.specs.Prelude.{FitsSigned, nat_abs}
use Rattle.std.proofs.lemmas.Int.{to_z-of_z}
use Rattle.dsp_defs.specs.Elementwise.{scale}
use Rattle.dsp_defs.specs.Formats.{word, word_bits}
use Rattle.dsp_defs.specs.Numbers.{saturate, ◌>>◌}
use Rattle.dsp_exact.proofs.Exact.{floor-is}
use Rattle.dsp_exact.proofs.elementwise.scale.Goals as goal

pub returns-in-Q7-clause-value : goal.returns-in-Q7-clause-value
returns-in-Q7-clause-value g c =
    let x = c.args.x in
    let fract = c.args.fract in
    let p = c.product-p in
    let v = c.floor_shift in
    let n = c.places_to in
    let r = c.saturate in
    let high = floor-is x fract p.result v.result n.result c.ranges.x c.ranges.fract (record { sfits = p.type_inv })
    (record { sfits = v.type_inv }) p.ensures.value v.ensures in
    to_z-of_z w32 r.result (record { sfits = r.type_inv })
    ∙ r.ensures.value
    ∙ (λ i. saturate (word_bits (c.in-Q7.is i)) (high i))
    ∙ ap (λ k. saturate 8 (x *ℤ fract >> k))
    (n.ensures.value ∙ ap (λ z. nat_abs (pos 7 -ℤ z)) (to_z-of_z w32 c.args.s c.ranges.s))
    ∙ ap (λ f. scale f fract c.args.s x) (sym c.in-Q7.is)

pub returns-in-Q7-clause-fits : goal.returns-in-Q7-clause-fits
returns-in-Q7-clause-fits g c =
    let r = c.saturate in
    subst (FitsSigned (word c.args.format)) (sym (to_z-of_z w32 r.result
    (record { sfits = r.type_inv }))) r.ensures.fits

pub returns-in-Q15-clause-value : goal.returns-in-Q15-clause-value
returns-in-Q15-clause-value g c =
    let x = c.args.x in
    let fract = c.args.fract in
    let p = c.product-p in
    let v = c.floor_shift-in-Q15 in
    let n = c.places_to-in-Q15 in
    let r = c.saturate-in-Q15 in
    let high = floor-is x fract p.result v.result n.result c.ranges.x c.ranges.fract (record { sfits = p.type_inv })
    (record { sfits = v.type_inv }) p.ensures.value v.ensures in
    to_z-of_z w32 r.result (record { sfits = r.type_inv })
    ∙ r.ensures.value
    ∙ (λ i. saturate (word_bits (c.in-Q15.is i)) (high i))
    ∙ ap (λ k. saturate 16 (x *ℤ fract >> k))
    (n.ensures.value ∙ ap (λ z. nat_abs (pos 15 -ℤ z)) (to_z-of_z w32 c.args.s c.ranges.s))
    ∙ ap (λ f. scale f fract c.args.s x) (sym c.in-Q15.is)

pub returns-in-Q15-clause-fits : goal.returns-in-Q15-clause-fits
returns-in-Q15-clause-fits g c =
    let r = c.saturate-in-Q15 in
    subst (FitsSigned (word c.args.format)) (sym (to_z-of_z w32 r.result
    (record { sfits = r.type_inv }))) r.ensures.fits

pub floor_shift-requires : goal.floor_shift-requires
floor_shift-requires g c = search rules

pub floor_shift-requires-in-Q15 : goal.floor_shift-requires-in-Q15
floor_shift-requires-in-Q15 g c = search rules

pub moved-requires-clause-small : goal.moved-requires-clause-small
moved-requires-clause-small g c = search rules

pub moved-requires-clause-few : goal.moved-requires-clause-few
moved-requires-clause-few g c = search rules

pub returns-in-Q31-clause-value : goal.returns-in-Q31-clause-value
returns-in-Q31-clause-value g c = search rules

pub returns-in-Q31-clause-fits : goal.returns-in-Q31-clause-fits
returns-in-Q31-clause-fits g c = search rules
