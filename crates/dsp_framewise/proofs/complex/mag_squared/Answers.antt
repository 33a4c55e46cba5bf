use Rattle.std.proofs.Common.{◌≡◌, ◌∙◌, ◌+ℤ◌, ◌*ℤ◌, ◌-◌, ◌*◌, ◌^◌, ap, refl, sym, subst, arith, rules}
use Rattle.std.specs.Int.{w32, w128}
use Rattle.std.specs.Prelude.{FitsSigned}
use Rattle.std.proofs.lemmas.Int.{to_z-of_z}
use Rattle.dsp_sat.proofs.Words.{shift_down-is}
use Rattle.dsp_defs.specs.Complex.{product_shift}
use Rattle.dsp_defs.specs.Formats.{word, word_bits}
use Rattle.dsp_defs.specs.Numbers.{◌>>◌}
use Rattle.dsp_defs.specs.Signal.{sample}
use Rattle.dsp_framewise.proofs.Shifted.{products-small, sum-shifted, sum-small}
use Rattle.dsp_framewise.proofs.complex.mag_squared.Goals as goal

pub as_sample-requires : goal.as_sample-requires
as_sample-requires g c =
    let aa = c.shifted-aa in
    let bb = c.shifted-bb in
    let s = c.sum in
    rw (to_z-of_z w128 s.result (record { sfits = s.type_inv }))
    (sum-small aa.result bb.result s.result (2 ^ (word_bits c.args.format - 3)) (record { sfits = aa.type_inv })
    (record { sfits = bb.type_inv }) s.ensures.small aa.ensures.small bb.ensures.small)

pub as_sample-requires-in_default : goal.as_sample-requires-in_default
as_sample-requires-in_default g c =
    let format = c.args.format in
    let aa = c.product-aa in
    let bb = c.product-bb in
    let s = c.sum-in_default in
    let small = sum-small aa.result bb.result s.result (2 ^ (2 * word_bits format - 2))
    (record { sfits = aa.type_inv }) (record { sfits = bb.type_inv }) s.ensures.small aa.ensures.small
    bb.ensures.small in
    rw (shift_down-is w128 s.result s.result c.product_shift.result (product_shift format)
    (record { sfits = s.type_inv }) refl c.product_shift.ensures) (products-small format s.result 2 small)

pub returns-in_default : goal.returns-in_default
returns-in_default g c =
    let format = c.args.format in
    let aa = c.product-aa in
    let bb = c.product-bb in
    let s = c.sum-in_default in
    let r = c.as_sample-in_default in
    let a = sample c.args.frame.now 0 in
    let b = sample c.args.frame.now 1 in
    let is = to_z-of_z w32 r.result (record { sfits = r.type_inv }) in
    let aa_is = to_z-of_z w128 aa.result (record { sfits = aa.type_inv }) ∙ aa.ensures.value in
    let bb_is = to_z-of_z w128 bb.result (record { sfits = bb.type_inv }) ∙ bb.ensures.value in
    let sum_is : s.result ≡ a *ℤ a +ℤ b *ℤ b = s.ensures.value ∙ (λ i. aa_is i +ℤ bb_is i) in
    record {
      value = is
          ∙ r.ensures.value
          ∙ shift_down-is w128 s.result (a *ℤ a +ℤ b *ℤ b) c.product_shift.result (product_shift format)
          (record { sfits = s.type_inv }) sum_is c.product_shift.ensures
          ∙ sum-shifted format a b c.in_default.not-Q31;
      fits = subst (FitsSigned (word format)) (sym is) r.ensures.fits;
      products = omega (arith, aa.ensures.products, bb.ensures.products);
    }

pub shifted-aa-requires : goal.shifted-aa-requires
shifted-aa-requires g c = search rules

pub shifted-bb-requires : goal.shifted-bb-requires
shifted-bb-requires g c = search rules

pub sum-requires-clause-left : goal.sum-requires-clause-left
sum-requires-clause-left g c = search rules

pub sum-requires-clause-right : goal.sum-requires-clause-right
sum-requires-clause-right g c = search rules

pub product-aa-requires : goal.product-aa-requires
product-aa-requires g c = search rules

pub product-bb-requires : goal.product-bb-requires
product-bb-requires g c = search rules

pub sum-requires-in_default : goal.sum-requires-in_default
sum-requires-in_default g c = search rules

pub overflow_cast-product_shift : goal.overflow_cast-product_shift
overflow_cast-product_shift g c = search rules

pub overflow_shr-sum : goal.overflow_shr-sum
overflow_shr-sum g c = search rules

pub returns-in-Q31-clause-value : goal.returns-in-Q31-clause-value
returns-in-Q31-clause-value g c = search rules

pub returns-in-Q31-clause-fits : goal.returns-in-Q31-clause-fits
returns-in-Q31-clause-fits g c = search rules
