use Rattle.std.proofs.Common.{refl, ◌≡◌, ◌≢◌, ◌∙◌, ap, sym, ◌+◌, ◌+ℤ◌}
use Rattle.dsp_defs.specs.Numbers.{◌>>◌}
use Rattle.dsp_defs.specs.Formats.{word_bits}
use Rattle.dsp_defs.specs.Complex.{product_shift}
use Rattle.dsp_complex.proofs.Parts.{sum-in-32, sum-is, sum-in-word, magnitude-wide, magnitude-narrow, magnitude-is}
use Rattle.dsp_complex.proofs.Parts.{magnitude-in-64, magnitude-in-32, magnitude-in-word}
use Rattle.dsp_complex.proofs.scalars.squared.Goals as goal

narrow : (g : _) (c : goal.After-WORD_BITS-else-WORD_BITS-eq32 g) → word_bits g.T.Sample.format ≢ 32
narrow g c = λ e. c.if-WORD_BITS-eq32.false (c.WORD_BITS.ensures ∙ g.met.T.Sample.has_word_bits ∙ e)

amount : (g : _) (c : goal.After-WORD_BITS-else-WORD_BITS-eq32 g) →
    c.WORD_BITS-else-WORD_BITS-eq32.result + 1 ≡ product_shift g.T.Sample.format
amount g c = ap (λ n. n + 1) (c.WORD_BITS-else-WORD_BITS-eq32.ensures ∙ g.met.T.Sample.has_word_bits) ∙
    g.met.T.ComplexSample.has_shift

pub overflow_add-sum : goal.overflow_add-sum
overflow_add-sum g c = sum-in-32 g.T.Sample.format c.shifted_product.result
    c.shifted_product-then-WORD_BITS-eq32.result c.shifted_product.ensures.small
    c.shifted_product-then-WORD_BITS-eq32.ensures.small

pub of_number-requires : goal.of_number-requires
of_number-requires g c = sum-in-word g.T.Sample.format c.shifted_product.result
    c.shifted_product-then-WORD_BITS-eq32.result c.shifted_product.ensures.small
    c.shifted_product-then-WORD_BITS-eq32.ensures.small

pub returns-then-WORD_BITS-eq32-clause-value : goal.returns-then-WORD_BITS-eq32-clause-value
returns-then-WORD_BITS-eq32-clause-value g c =
    c.of_number.ensures
    ∙ sum-is g.T.Sample.format c.shifted_product.result c.shifted_product-then-WORD_BITS-eq32.result
    c.shifted_product.ensures.small c.shifted_product-then-WORD_BITS-eq32.ensures.small
    ∙ (λ i. c.shifted_product.ensures.value i +ℤ c.shifted_product-then-WORD_BITS-eq32.ensures.value i)
    ∙ sym (magnitude-wide g.T.Sample.format _ _ (sym (c.WORD_BITS.ensures ∙ g.met.T.Sample.has_word_bits) ∙
    c.if-WORD_BITS-eq32.true))

pub overflow_add-sum-else-WORD_BITS-eq32 : goal.overflow_add-sum-else-WORD_BITS-eq32
overflow_add-sum-else-WORD_BITS-eq32 g c =
    magnitude-in-64 g.T.Sample.format c.wide_product.result c.wide_product-else-WORD_BITS-eq32.result _
    (λ e. c.if-WORD_BITS-eq32.false (c.WORD_BITS.ensures ∙ g.met.T.Sample.has_word_bits ∙ e))
    c.wide_product.ensures.small
    c.wide_product-else-WORD_BITS-eq32.ensures.small refl

pub overflow_cast-sum : goal.overflow_cast-sum
overflow_cast-sum g c =
    magnitude-in-32 g.T.Sample.format c.wide_product.result c.wide_product-else-WORD_BITS-eq32.result _ (narrow g c)
    c.wide_product.ensures.small c.wide_product-else-WORD_BITS-eq32.ensures.small (amount g c)

pub of_number-requires-else-WORD_BITS-eq32 : goal.of_number-requires-else-WORD_BITS-eq32
of_number-requires-else-WORD_BITS-eq32 g c =
    magnitude-in-word g.T.Sample.format c.wide_product.result c.wide_product-else-WORD_BITS-eq32.result _ (narrow g c)
    c.wide_product.ensures.small c.wide_product-else-WORD_BITS-eq32.ensures.small (amount g c)

pub returns-else-WORD_BITS-eq32-clause-value : goal.returns-else-WORD_BITS-eq32-clause-value
returns-else-WORD_BITS-eq32-clause-value g c =
    c.of_number-else-WORD_BITS-eq32.ensures
    ∙ magnitude-is g.T.Sample.format c.wide_product.result c.wide_product-else-WORD_BITS-eq32.result _
    (λ e. c.if-WORD_BITS-eq32.false (c.WORD_BITS.ensures ∙ g.met.T.Sample.has_word_bits ∙ e))
    c.wide_product.ensures.small c.wide_product-else-WORD_BITS-eq32.ensures.small
    (ap (λ n. n + 1) (c.WORD_BITS-else-WORD_BITS-eq32.ensures ∙ g.met.T.Sample.has_word_bits) ∙
    g.met.T.ComplexSample.has_shift)
    ∙ (λ i. c.wide_product.ensures.value i +ℤ c.wide_product-else-WORD_BITS-eq32.ensures.value i >> product_shift
    g.T.Sample.format)
    ∙ sym (magnitude-narrow g.T.Sample.format _ _ (λ e. c.if-WORD_BITS-eq32.false
    (c.WORD_BITS.ensures ∙ g.met.T.Sample.has_word_bits ∙ e)))
