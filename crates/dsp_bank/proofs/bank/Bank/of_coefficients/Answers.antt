use Rattle.std.proofs.Common.{◌≡◌, ◌∙◌, ap, refl, sym, pos, ◌*◌, ◌/◌, length, map, replicate, rules}
use Rattle.std.proofs.lemmas.List.{length-map}
use Rattle.dsp_defs.specs.Cost.{section_count}
use Rattle.dsp_biquad.specs.Laws.{count-at}
use Rattle.dsp_bank.proofs.bank.Bank.of_coefficients.Goals as goal

pub returns : goal.returns
returns g c =
    let number = g.T.Sample.number in
    let format = g.T.Sample.format in
    let size = g.T.BiquadSample.SIZE in
    let items = c.args.coefficients.items in
    let long : c.len.result ≡ length items = search rules in
    let sections : c.len.result / c.SIZE.result ≡ section_count format (map number items) =
    (λ i. long i / c.SIZE.ensures i)
    ∙ sym (count-at format size g.met.T.BiquadSample.has_size (map number items) ∙ ap (λ n. n / size)
    (length-map items number)) in
    record {
      post_shift_is = refl;
      coefficients_are = refl;
      channels_are = c.from-channels.ensures;
      capacity_is = refl;
      zeros = c.in_ok-kept.ensures.zeros
          ∙ (λ i. replicate (c.from-channels.ensures i * sections i * 4) (pos 0));
    }
