use Rattle.std.proofs.Common.{◌≡◌, ◌∙◌, ap, ap₂, sym, ◌++◌, [], ◌∷◌, get_or, map, pos, w32, to_z, of_z, arith}
use Rattle.std.specs.Prelude.{◌≤ℤ◌, nat_abs}
use Rattle.std.proofs.lemmas.Int.{ints}
use Rattle.std.proofs.lemmas.List.{map-append, take_more}
use Rattle.dsp_fir.proofs.making.delays_of.Goals as goal
use Rattle.dsp_filter.proofs.LastPlace.{number-read}

pub loop-number-preserved : goal.loop-number-preserved
loop-number-preserved c =
    let numbers = c.args.numbers.now in
    let i = c.loop-number.number-index in
    let z = get_or numbers i (pos 0) in
    let low : pos 0 ≤ℤ z = c.requires i (pos 0) c.loop-number-test.true in
    let read : to_z w32 (of_z w32 z) ≡ z = omega (arith, ints) in
    ap (map pos) c.in_ok-push.ensures.items
    ∙ map-append pos c.loop-number.delays.items (nat_abs (to_z w32 (of_z w32 z)) ∷ [])
    ∙ ap₂ (λ l n. l ++ n ∷ []) c.loop-number.invariant (number-read (to_z w32 (of_z w32 z)) z read low)
    ∙ sym (take_more numbers i (pos 0) c.loop-number-test.true)
