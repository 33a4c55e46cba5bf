use Rattle.std.proofs.Common.{◌∙◌, ap, sym, subst, ◌+◌, ◌-◌, ◌*◌, ◌≤◌, length, map, slice_range, rules, arith}
use Rattle.dsp_defs.specs.Signal.{sample}
use Rattle.dsp_defs.proofs.SumLemmas.{sample-map}
use Rattle.dsp_bank.specs.Rows.{section_at}
use Rattle.dsp_bank.proofs.Amounts.{at-least, five-of, last-inside, section-inside}
use Rattle.dsp_bank.proofs.Groups.{length-piece, piece-read}
use Rattle.dsp_bank.proofs.sections.numbers_at.Goals as goal

pub overflow_mul-at : goal.overflow_mul-at
overflow_mul-at g c =
    let inside : c.args.section * c.SIZE-size.result + c.SIZE-size.result ≤ length c.args.coefficients.now =
    section-inside c.args.section g.T.BiquadSample.SIZE c.SIZE-size.result (length c.args.coefficients.now)
    c.SIZE-size.ensures c.requires in
    search rules

pub overflow_add-numbers : goal.overflow_add-numbers
overflow_add-numbers g c =
    let inside : c.args.section * c.SIZE-size.result + c.SIZE-size.result ≤ length c.args.coefficients.now =
    section-inside c.args.section g.T.BiquadSample.SIZE c.SIZE-size.result (length c.args.coefficients.now)
    c.SIZE-size.ensures c.requires in
    search rules

pub overflow_sub-result : goal.overflow_sub-result
overflow_sub-result g c =
    at-least c.SIZE-size.result 4 (five-of g.T.Sample.format g.T.BiquadSample.SIZE c.SIZE-size.result
    g.met.T.BiquadSample.has_size c.SIZE-size.ensures) (omega arith)

pub returns : goal.returns
returns g c =
    let number = g.T.Sample.number in
    let cs = c.args.coefficients.now in
    let n = c.SIZE-size.result in
    let at = c.args.section * n in
    let piece = slice_range cs at (at + n) in
    let inside = section-inside c.args.section g.T.BiquadSample.SIZE n (length cs) c.SIZE-size.ensures c.requires in
    let long = length-piece number cs at n inside in
    let five = five-of g.T.Sample.format g.T.BiquadSample.SIZE n g.met.T.BiquadSample.has_size c.SIZE-size.ensures in
    let same = piece-read number cs at n in
    let b0 = sample-map number piece 0 c.index-numbers-0.result (subst (λ k. 1 ≤ k) (sym long) (omega (arith, five)))
    c.index-numbers-0.is ∙ ap (λ l. sample l 0) same in
    let b1 = sample-map number piece (n - 4) c.index-numbers-size.result
    (last-inside n 4 (length piece) five (omega arith) long) c.index-numbers-size.is
    ∙ ap (λ l. sample l (n - 4)) same in
    let b2 = sample-map number piece (n - 3) c.index-numbers-size-2.result
    (last-inside n 3 (length piece) five (omega arith) long) c.index-numbers-size-2.is
    ∙ ap (λ l. sample l (n - 3)) same in
    let a1 = sample-map number piece (n - 2) c.index-numbers-size-3.result
    (last-inside n 2 (length piece) five (omega arith) long) c.index-numbers-size-3.is
    ∙ ap (λ l. sample l (n - 2)) same in
    let a2 = sample-map number piece (n - 1) c.index-numbers-size-4.result
    (last-inside n 1 (length piece) five (omega arith) long) c.index-numbers-size-4.is
    ∙ ap (λ l. sample l (n - 1)) same in
    (λ i. record { b0 = b0 i; b1 = b1 i; b2 = b2 i; a1 = a1 i; a2 = a2 i })
    ∙ ap (λ k. section_at k (map number cs) c.args.section) c.SIZE-size.ensures
