use Rattle.std.proofs.Common.{◌≡◌, ◌∙◌, ◌≤◌, ◌+◌, ◌*◌, ◌-◌, ◌^◌, ◌*ℤ◌, ap, sym, subst, SFits, to_z, of_z, rules}
use Rattle.std.proofs.Common.{nat_abs, w32, w64}
use Rattle.std.proofs.lemmas.Int.{to_z-of_z}
use lib.Signed.{shr_z}
use Rattle.dsp_sat.proofs.Words.{shift_down-is}
use Rattle.dsp_defs.specs.Numbers.{◌>>◌}
use Rattle.dsp_defs.specs.Formats.{word_bits}
use Rattle.dsp_defs.specs.Complex.{product_shift}
use Rattle.dsp_complex.proofs.Parts.{shifted-small, small-in-32}
use Rattle.dsp_complex.proofs.scalars.shifted_product.Goals as goal

shifted : (g : _) (c : goal.After-WORD_BITS g) →
    to_z w64 (of_z w64 (shr_z (to_z w64 (of_z w64 c.wide_product.result)) (2 ^ (c.WORD_BITS.result + 1)))) ≡
    (g.T.Sample.number c.args.a *ℤ g.T.Sample.number c.args.b >> product_shift g.T.Sample.format)
shifted g c =
    let wide : SFits w64 c.wide_product.result = search rules in
    shift_down-is w64 c.wide_product.result (g.T.Sample.number c.args.a *ℤ g.T.Sample.number c.args.b) _ _ wide
    c.wide_product.ensures.value
    (ap (λ n. n + 1) (c.WORD_BITS.ensures ∙ g.met.T.Sample.has_word_bits) ∙ g.met.T.ComplexSample.has_shift)

small : (g : _) (c : goal.After-WORD_BITS g) → nat_abs
    (g.T.Sample.number c.args.a *ℤ g.T.Sample.number c.args.b >> product_shift g.T.Sample.format) ≤ 2 ^
    (word_bits g.T.Sample.format - 3)
small g c = shifted-small g.T.Sample.format _ (subst (λ z. nat_abs z ≤ 2 ^ (2 * word_bits g.T.Sample.format - 2))
    c.wide_product.ensures.value c.wide_product.ensures.small)

is : (g : _) (c : goal.After-WORD_BITS g) →
    to_z w32 (of_z w32 (to_z w64 (of_z w64 (shr_z (to_z w64 (of_z w64 c.wide_product.result))
    (2 ^ (c.WORD_BITS.result + 1)))))) ≡ (g.T.Sample.number c.args.a *ℤ g.T.Sample.number c.args.b >> product_shift
    g.T.Sample.format)
is g c = ap (λ z. to_z w32 (of_z w32 z)) (shifted g c) ∙ to_z-of_z w32 _ (small-in-32 g.T.Sample.format _ (small g c))

pub returns-clause-value : goal.returns-clause-value
returns-clause-value g c = is g c

pub returns-clause-small : goal.returns-clause-small
returns-clause-small g c = subst (λ z. nat_abs z ≤ 2 ^ (word_bits g.T.Sample.format - 3)) (sym (is g c)) (small g c)
