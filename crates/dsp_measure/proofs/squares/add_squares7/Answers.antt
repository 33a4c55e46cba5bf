use Rattle.std.proofs.Common.{◌≡◌, ◌∙◌, ap, refl, ◌+◌, ◌+ℤ◌, ◌*ℤ◌, arith, rules, SFits, to_z, to_z-of_z}
use Rattle.std.specs.Int.{w32}
use Rattle.std.proofs.lemmas.Int.{wrapping_add_onto}
use Rattle.dsp_defs.specs.Numbers.{wrap}
use Rattle.dsp_defs.specs.Signal.{sample}
use Rattle.dsp_defs.specs.declared.format.Fmt.TheVariants.{Q7}
use Rattle.dsp_measure.proofs.SumLaws.{products-more}
use Rattle.dsp_measure.proofs.squares.add_squares7.Goals as goal

pub loop-x-preserved : goal.loop-x-preserved
loop-x-preserved g c =
    let n = c.loop-x.x-index in
    let numbers = c.args.numbers.now in
    let x = sample numbers n in
    let rise = c.loop-x.invariant.steps in
    let one = c.square-sum.ensures.steps in
    let taken : SFits w32 x = search rules in
    let made : SFits w32 c.square-sum.result = search rules in
    let product : c.square-sum.result ≡ x *ℤ x = c.square-sum.ensures.value ∙
    (λ i. to_z-of_z taken i *ℤ to_z-of_z taken i) in
    record {
      sum = products-more Q7 _ (to_z w32 c.loop-x.sum-bits) _ x x n (n + 1) numbers numbers refl (refl, refl)
          c.loop-x.invariant.sum
          (wrapping_add_onto w32 c.loop-x.sum-bits c.square-sum.result c.loop-x.auto.sum-fits.fits made ∙
          ap (λ p. wrap w32 (to_z w32 c.loop-x.sum-bits +ℤ p)) product);
      steps = record {
        multiplies_rise = omega (arith, rise.multiplies_rise, one.multiplies_rise);
        turns_rise = omega (arith, rise.turns_rise, one.turns_rise);
      };
    }
