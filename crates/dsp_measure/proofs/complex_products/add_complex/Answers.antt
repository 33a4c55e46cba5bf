use Rattle.std.proofs.Common.{◌≡◌, ◌∙◌, ap, ◌+◌, length, arith, rules, SFits, to_z-of_z}
use mir.Syntax.{w64}
use Rattle.dsp_defs.specs.Formats.{accumulator}
use Rattle.dsp_measure.proofs.SumLaws.{sum_with, sum-none, real-more, imaginary-more, real_terms, imaginary_terms}
use Rattle.dsp_measure.proofs.complex_products.add_complex.Goals as goal

pub loop-n-init : goal.loop-n-init
loop-n-init g c =
    let format = g.T.Sample.format in
    let fits_re : SFits w64 c.args.start.0 = search rules in
    let fits_im : SFits w64 c.args.start.1 = search rules in
    record {
      sums = λ a b p q _. (
        c.sum_of_number.ensures ∙ to_z-of_z fits_re ∙
            sum-none (accumulator format) c.args.start.0 (real_terms format a b p q) c.requires.start_re,
        c.sum_of_number-2.ensures ∙ to_z-of_z fits_im ∙
            sum-none (accumulator format) c.args.start.1 (imaginary_terms format a b p q) c.requires.start_im,
      );
      steps = record { multiplies_rise = omega arith; turns_rise = omega arith };
    }

pub loop-n-preserved : goal.loop-n-preserved
loop-n-preserved g c =
    let T = g.T.Sample in
    let n = c.loop-n.n in
    let rise = c.loop-n.invariant.steps in
    let one = c.add_complex_product-sums.ensures.steps in
    let s = c.at.result in
    let before = c.loop-n.sums in
    let sums = c.add_complex_product-sums.result in
    record {
      sums = λ a b p q is. (
        real-more T.format c.args.start.0 (T.total before.0) (T.total sums.0) (T.number s.0) (T.number s.1)
            (T.number s.2) (T.number s.3) n (n + 1) a b p q (omega arith) (is n s c.loop-n-test.true c.at.ensures)
            (c.loop-n.invariant.sums a b p q is).0 c.add_complex_product-sums.ensures.re,
        imaginary-more T.format c.args.start.1 (T.total before.1) (T.total sums.1) (T.number s.0) (T.number s.1)
            (T.number s.2) (T.number s.3) n (n + 1) a b p q (omega arith) (is n s c.loop-n-test.true c.at.ensures)
            (c.loop-n.invariant.sums a b p q is).1 c.add_complex_product-sums.ensures.im,
      );
      steps = record {
        multiplies_rise = omega (arith, rise.multiplies_rise, one.multiplies_rise);
        turns_rise =
            omega (arith, rise.turns_rise, one.turns_rise);
      };
    }

pub returns-clause-sums : goal.returns-clause-sums
returns-clause-sums g c = λ a b p q size is. (
    let format = g.T.Sample.format in
    let w = accumulator format in
    let sums = c.loop-n.invariant.sums a b p q is in
    let whole : c.loop-n.n ≡ length a = omega (arith, size, c.loop-n-test.false, c.loop-n.auto.n-end) in
    let new_re : SFits w64 c.number_of_sum.result = search rules in
    let new_im : SFits w64 c.number_of_sum-2.result = search rules in
    let re = to_z-of_z new_re ∙ c.number_of_sum.ensures.value ∙ sums.0 ∙
    ap (λ k. sum_with w c.args.start.0 k (real_terms format a b p q)) whole in
    let im = to_z-of_z new_im ∙ c.number_of_sum-2.ensures.value ∙ sums.1 ∙
    ap (λ k. sum_with w c.args.start.1 k (imaginary_terms format a b p q)) whole in
    λ i. (re i, im i))
