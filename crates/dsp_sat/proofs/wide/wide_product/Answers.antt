use Rattle.std.proofs.Common.{◌≡◌, ◌∙◌, ◌≤◌, ◌*◌, ◌-◌, ◌^◌, sym, subst, ℤ, SFits, to_z, of_z, lit<}
use Rattle.std.specs.Prelude.{FitsSigned, nat_abs}
use Rattle.std.specs.Int.{w32, w64}
use Rattle.dsp_defs.specs.Formats.{word, word_bits}
use Rattle.dsp_defs.specs.declared.format.Fmt.{Fmt}
use Rattle.dsp_sat.proofs.WideProducts.{product-small, word-in-32}
use Rattle.dsp_sat.proofs.Words.{wide_fits, wide-is, widened}
use Rattle.dsp_sat.proofs.wide.wide_product.Goals as goal

-- a sample in 64 bits
read :
    (format : Fmt) (m n z : ℤ) → FitsSigned (word format) n → SFits w64 m → m ≡ to_z w32 (of_z w32 n) → n ≡ z →
    to_z w64 (of_z w64 m) ≡ z
read format m n z fits wide is is_z = widened w64 w32 m n (word-in-32 format n fits) wide is ∙ is_z

in_32 : (format : Fmt) (n z : ℤ) → FitsSigned (word format) n → n ≡ z → SFits w32 z
in_32 format n z fits is_z = subst (SFits w32) is_z (word-in-32 format n fits)

pub overflow_mul-result : goal.overflow_mul-result
overflow_mul-result g c =
    let format = g.T.Sample.format in
    let one = c.number in
    let two = c.number-2 in
    let a = g.T.Sample.number c.args.a in
    let b = g.T.Sample.number c.args.b in
    wide_fits w64 w32 w32 c.from.result c.from-2.result a b
    (read format c.from.result one.result a one.ensures.fits (record { sfits = c.from.type_inv }) c.from.ensures
    one.ensures.value)
    (read format c.from-2.result two.result b two.ensures.fits (record { sfits = c.from-2.type_inv }) c.from-2.ensures
    two.ensures.value)
    (in_32 format one.result a one.ensures.fits one.ensures.value)
    (in_32 format two.result b two.ensures.fits two.ensures.value)
    (lit< tt)

pub returns-clause-value : goal.returns-clause-value
returns-clause-value g c =
    let format = g.T.Sample.format in
    let one = c.number in
    let two = c.number-2 in
    let a = g.T.Sample.number c.args.a in
    let b = g.T.Sample.number c.args.b in
    wide-is w64 w32 w32 c.from.result c.from-2.result a b
    (read format c.from.result one.result a one.ensures.fits (record { sfits = c.from.type_inv }) c.from.ensures
    one.ensures.value)
    (read format c.from-2.result two.result b two.ensures.fits (record { sfits = c.from-2.type_inv }) c.from-2.ensures
    two.ensures.value)
    (in_32 format one.result a one.ensures.fits one.ensures.value)
    (in_32 format two.result b two.ensures.fits two.ensures.value)
    (lit< tt)

pub returns-clause-small : goal.returns-clause-small
returns-clause-small g c =
    let format = g.T.Sample.format in
    let a = g.T.Sample.number c.args.a in
    let b = g.T.Sample.number c.args.b in
    subst (λ z. nat_abs z ≤ 2 ^ (2 * word_bits format - 2)) (sym (returns-clause-value g c))
    (product-small format a b
    (subst (FitsSigned (word format)) c.number.ensures.value c.number.ensures.fits)
    (subst (FitsSigned (word format)) c.number-2.ensures.value c.number-2.ensures.fits))

pub returns-clause-steps : goal.returns-clause-steps
returns-clause-steps g c = c.count.ensures
