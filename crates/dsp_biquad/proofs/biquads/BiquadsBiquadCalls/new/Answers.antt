use Rattle.std.proofs.Common.{◌≡◌, ◌∙◌, ap, sym, subst, ◌≤◌, ◌*◌, ◌%◌, ℕ, map, length}
use Rattle.std.proofs.lemmas.List.{length-map}
use Rattle.dsp_biquad.proofs.biquads.BiquadsBiquadCalls.new.Goals as goal

pub of_work-requires-clause-block : goal.of_work-requires-clause-block
of_work-requires-clause-block g c =
    let T = g.T.Sample in
    let S = g.S.CascadeSection in
    let given = map T.number c.args.coefficients.now in
    let size = length-map c.args.coefficients.now T.number in
    let is : c.SIZE.result ≡ S.SIZE = c.SIZE.ensures in
    let greatest : c.GREATEST_SHIFT.result ≡ S.GREATEST_SHIFT = c.GREATEST_SHIFT.ensures in
    let sound = c.in_ok-check_cascade.ensures.sound in
    let shift : c.args.post_shift ≤ c.GREATEST_SHIFT.result = sound.2 in
    let whole : length c.args.coefficients.now % c.SIZE.result ≡ 0 = sound.0 in
    let few : length c.args.coefficients.now ≤ 64 * c.SIZE.result = sound.1 in
    let fits = g.met.S.CascadeSection.of_numbers c.args.post_shift given (record {
      shift = subst (λ n. c.args.post_shift ≤ n) greatest shift;
      in_format = c.all_fit.ensures;
      whole = ap (λ n. n % S.SIZE) size ∙ subst (λ n. length c.args.coefficients.now % n ≡ 0) is whole;
      few = subst (λ n. length given ≤ 64 * n) is (subst (λ n. n ≤ 64 * c.SIZE.result) (sym size) few);
    }) in
    let made : c.in-Ok-new.cascade.coefficients ≡ given = c.in-Ok-new.ensures.coefficients ∙
    ap (map T.number) c.in-Ok.ensures.items in
    subst (λ (p : ℕ). S.IsOf (S.block p c.in-Ok-new.cascade.coefficients)) (sym c.in-Ok-new.ensures.post_shift)
    (subst (λ l. S.IsOf (S.block c.args.post_shift l)) (sym made) fits)
