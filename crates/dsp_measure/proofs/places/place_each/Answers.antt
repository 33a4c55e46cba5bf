use Rattle.std.proofs.Common.{◌≡◌, ◌∙◌, ap, sym, subst, ◌*◌, ◌<◌, ℕ, ℤ, List, Option, Some, length, arith, below_more}
use Rattle.dsp_defs.specs.declared.format.Fmt.{Fmt}
use Rattle.dsp_unit.specs.Channels.{numbers_in}
use Rattle.dsp_defs.specs.Kept.{Each, IsOfKind, FitsAfter, FitsChannel, kinds_by, place_of}
use Rattle.dsp_measure.specs.Measures.{block_of, parts_of, size_of}
use Rattle.dsp_measure.specs.declared.measure_block.MeasureBlock.{MeasureBlock}
use Rattle.dsp_measure.proofs.MeasureParts.{length-kept, kinds-each, each-kinds}
use Rattle.dsp_measure.proofs.MeasureUnits.{parts-few}
use Rattle.dsp_measure.proofs.places.place_each.Goals as goal

-- the place of numbers that fit is that of each measure's
at : (format : Fmt) (channels : ℕ) (m : MeasureBlock) (numbers piece : List ℤ) (s p : ℕ) (r : Option ℕ) →
    s ≡ size_of m → piece ≡ numbers_in s numbers p → p < parts_of m channels →
    ((n : ℕ) → FitsChannel format (block_of m) n piece → r ≡ Some (place_of (block_of m) n)) → (n : ℕ) →
    FitsAfter format channels (block_of m) n numbers → r ≡ Some (place_of (block_of m) n)
at format channels m numbers piece s p r same is inside least n fits =
    least n (
      fits.0,
      subst (Each IsOfKind (kinds_by format (block_of m) n))
          (sym (is ∙ ap (λ k. numbers_in k numbers p) same))
          (kinds-each format channels m IsOfKind n numbers fits.1 p inside),
    )

pub returns-then-numbers-parts-clause-least : goal.returns-then-numbers-parts-clause-least
returns-then-numbers-parts-clause-least g c = λ n fits.
    absurd (c.if-numbers-parts.true (length-kept g.T.Sample.format c.args.channels c.args.measure IsOfKind n
    c.args.numbers.now fits.1
    ∙ sym (λ i. (c.parts-parts.ensures ∙ ap (parts_of c.args.measure) c.from.ensures) i * c.size-size.ensures i)))

pub returns-in_default-clause-least : goal.returns-in_default-clause-least
returns-in_default-clause-least g c = λ n fits.
    absurd (c.in_default.not-Some _ (at g.T.Sample.format c.args.channels c.args.measure c.args.numbers.now
    c.numbers_of.result.now c.size-size.result 0 c.place_part.result c.size-size.ensures c.numbers_of.ensures
    (parts-few c.args.measure c.args.channels c.requires).0 c.place_part.ensures.least n fits))

-- a measure of the loop is one of all
inside : (m : MeasureBlock) (channels wide parts part : ℕ) → parts ≡ parts_of m wide → wide ≡ channels →
    part < parts → part < parts_of m channels
inside m channels wide parts part many same less = subst (λ k. part < parts_of m k) same
    (subst (λ k. part < k) many less)

pub returns-in_default-place_part-clause-least : goal.returns-in_default-place_part-clause-least
returns-in_default-place_part-clause-least g c = λ n fits.
    absurd (c.in_default-place_part.not-Some _ (at g.T.Sample.format c.args.channels c.args.measure c.args.numbers.now
    c.numbers_of-in-loop-part.result.now c.size-size.result c.loop-part.part c.place_part-in-loop-part.result
    c.size-size.ensures c.numbers_of-in-loop-part.ensures
    (inside c.args.measure c.args.channels c.from.result c.parts-parts.result c.loop-part.part c.parts-parts.ensures
    c.from.ensures c.loop-part-test.true) c.place_part-in-loop-part.ensures.least n fits))

pub returns-then-other-place-clause-least : goal.returns-then-other-place-clause-least
returns-then-other-place-clause-least g c = λ n fits. (
    let first = at g.T.Sample.format c.args.channels c.args.measure c.args.numbers.now c.numbers_of.result.now
    c.size-size.result 0 c.place_part.result c.size-size.ensures c.numbers_of.ensures
    (parts-few c.args.measure c.args.channels c.requires).0 c.place_part.ensures.least n fits in
    let here = at g.T.Sample.format c.args.channels c.args.measure c.args.numbers.now
    c.numbers_of-in-loop-part.result.now c.size-size.result c.loop-part.part c.place_part-in-loop-part.result
    c.size-size.ensures c.numbers_of-in-loop-part.ensures
    (inside c.args.measure c.args.channels c.from.result c.parts-parts.result c.loop-part.part c.parts-parts.ensures
    c.from.ensures c.loop-part-test.true) c.place_part-in-loop-part.ensures.least n fits in
    let both : Some c.in-Some-place_part.other ≡ Some c.in-Some.place = sym c.in-Some-place_part.is ∙ here ∙
    sym first ∙ c.in-Some.is in
    let same : c.in-Some-place_part.other ≡ c.in-Some.place = cc in
    absurd (c.if-other-place.true same))

pub loop-part-init : goal.loop-part-init
loop-part-init g c = λ p h. absurd (omega (arith, h))

pub loop-part-preserved : goal.loop-part-preserved
loop-part-preserved g c =
    let m = c.args.measure in
    let format = g.T.Sample.format in
    let numbers = c.args.numbers.now in
    let part = c.loop-part.part in
    let here : FitsChannel format (block_of m) c.in-Some-place_part.other c.numbers_of-in-loop-part.result.now =
    c.in-Some-place_part.ensures.fits in
    below_more (λ p. FitsChannel format (block_of m) c.in-Some.place (numbers_in (size_of m) numbers p)) part
    c.loop-part.invariant
    (subst (FitsChannel format (block_of m) c.in-Some.place)
    (c.numbers_of-in-loop-part.ensures ∙ ap (λ k. numbers_in k numbers part) c.size-size.ensures)
    (subst (λ n. FitsChannel format (block_of m) n c.numbers_of-in-loop-part.result.now) c.if-other-place.false here))

pub returns-clause-fits : goal.returns-clause-fits
returns-clause-fits g c =
    let m = c.args.measure in
    let format = g.T.Sample.format in
    let channels = c.args.channels in
    let parts : c.parts-parts.result ≡ parts_of m channels = c.parts-parts.ensures ∙ ap (parts_of m) c.from.ensures in
    let some : 0 < parts_of m channels = (parts-few m channels c.requires).0 in
    let whole : length c.args.numbers.now ≡ parts_of m channels * size_of m = c.if-numbers-parts.false ∙
    (λ i. parts i * c.size-size.ensures i) in (
      (c.loop-part.invariant 0 (omega (arith, c.loop-part-test.false, some, parts))).0,
      each-kinds format channels m IsOfKind c.in-Some.place c.args.numbers.now whole
          (λ p h. (c.loop-part.invariant p (omega (arith, c.loop-part-test.false, h, parts))).1),
    )

pub returns-clause-least : goal.returns-clause-least
returns-clause-least g c = λ n fits.
    sym c.in-Some.is ∙ at g.T.Sample.format c.args.channels c.args.measure c.args.numbers.now c.numbers_of.result.now
    c.size-size.result 0 c.place_part.result c.size-size.ensures c.numbers_of.ensures
    (parts-few c.args.measure c.args.channels c.requires).0 c.place_part.ensures.least n fits
