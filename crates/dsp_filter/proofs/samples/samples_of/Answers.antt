use Rattle.std.proofs.Common.{◌≡◌, ◌∙◌, ◌++◌, ap, sym, pos, [], ◌∷◌, map, get_or, take_all, w32, to_z, of_z, arith}
use Rattle.std.proofs.lemmas.Int.{ints}
use Rattle.std.proofs.lemmas.List.{map_push, take_more}
use Rattle.dsp_filter.proofs.samples.samples_of.Goals as goal

pub loop-number-preserved : goal.loop-number-preserved
loop-number-preserved g c =
    let number = g.T.Sample.number in
    let numbers = c.args.numbers.now in
    let i = c.loop-number.number-index in
    let z = get_or numbers i (pos 0) in
    let read : to_z w32 (of_z w32 z) ≡ z = omega (arith, ints) in
    let is : number c.of_number.result ≡ z = c.of_number.ensures ∙ read in
    ap (map number) c.in_ok-push.ensures.items
    ∙ map_push number c.loop-number.samples.items c.of_number.result
    ∙ (λ j. c.loop-number.invariant j ++ (is j ∷ []))
    ∙ sym (take_more numbers i (pos 0) c.loop-number-test.true)

pub returns : goal.returns
returns g c = c.loop-number.invariant ∙ take_all c.loop-number.number-index c.args.numbers.now c.loop-number-test.false
