use Rattle.dsp_measure.proofs.SumLaws.{real-step, imaginary-step}
use Rattle.dsp_measure.proofs.complex_products.add_complex_product.Goals as goal

pub returns-clause-re : goal.returns-clause-re
returns-clause-re g c =
    let T = g.T.Sample in
    let numbers = c.args.numbers in
    real-step T.format (T.total c.args.sums.0) (T.total c.add_measured-ac.result)
    (T.total c.subtract_measured-re.result) (T.number numbers.0) (T.number numbers.1) (T.number numbers.2)
    (T.number numbers.3) c.add_measured-ac.ensures.value c.subtract_measured-re.ensures.value

pub returns-clause-im : goal.returns-clause-im
returns-clause-im g c =
    let T = g.T.Sample in
    let numbers = c.args.numbers in
    imaginary-step T.format (T.total c.args.sums.1) (T.total c.add_measured-ad.result)
    (T.total c.add_measured-im.result) (T.number numbers.0) (T.number numbers.1) (T.number numbers.2)
    (T.number numbers.3) c.add_measured-ad.ensures.value c.add_measured-im.ensures.value
