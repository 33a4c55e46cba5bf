use Rattle.std.proofs.Common.{◌∙◌, ◌+ℤ◌, ◌-ℤ◌}
use Rattle.dsp_complex.proofs.Parts.{difference-in-32, difference-is, difference-in-word, sum-in-32, sum-is}
use Rattle.dsp_complex.proofs.Parts.{sum-in-word}
use Rattle.dsp_complex.proofs.scalars.product.Goals as goal

pub overflow_sub-re : goal.overflow_sub-re
overflow_sub-re g c = difference-in-32 g.T.Sample.format c.shifted_product.result c.shifted_product-2.result
    c.shifted_product.ensures.small c.shifted_product-2.ensures.small

pub overflow_add-im : goal.overflow_add-im
overflow_add-im g c = sum-in-32 g.T.Sample.format c.shifted_product-3.result c.shifted_product-4.result
    c.shifted_product-3.ensures.small c.shifted_product-4.ensures.small

pub of_number-requires : goal.of_number-requires
of_number-requires g c = difference-in-word g.T.Sample.format c.shifted_product.result c.shifted_product-2.result
    c.shifted_product.ensures.small c.shifted_product-2.ensures.small

pub of_number-requires-2 : goal.of_number-requires-2
of_number-requires-2 g c = sum-in-word g.T.Sample.format c.shifted_product-3.result c.shifted_product-4.result
    c.shifted_product-3.ensures.small c.shifted_product-4.ensures.small

pub returns-clause-re : goal.returns-clause-re
returns-clause-re g c = c.of_number.ensures ∙ difference-is g.T.Sample.format c.shifted_product.result
    c.shifted_product-2.result c.shifted_product.ensures.small c.shifted_product-2.ensures.small ∙
    (λ i. c.shifted_product.ensures.value i -ℤ c.shifted_product-2.ensures.value i)

pub returns-clause-im : goal.returns-clause-im
returns-clause-im g c = c.of_number-2.ensures ∙ sum-is g.T.Sample.format c.shifted_product-3.result
    c.shifted_product-4.result c.shifted_product-3.ensures.small c.shifted_product-4.ensures.small ∙
    (λ i. c.shifted_product-3.ensures.value i +ℤ c.shifted_product-4.ensures.value i)
