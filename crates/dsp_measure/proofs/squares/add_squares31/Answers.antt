use Rattle.std.proofs.Common.{◌≡◌, ◌∙◌, ap, refl, ◌+◌, ◌+ℤ◌, ◌*ℤ◌, arith, rules, SFits, to_z, of_z, to_z-of_z}
use Rattle.std.specs.Int.{w32, w64}
use Rattle.std.proofs.lemmas.Int.{wrapping_add_onto}
use lib.Signed.{shr_z}
use Rattle.dsp_defs.specs.Numbers.{wrap, ◌>>◌}
use Rattle.dsp_defs.specs.Signal.{sample}
use Rattle.dsp_defs.specs.declared.format.Fmt.TheVariants.{Q31}
use Rattle.dsp_sat.proofs.Words.{shift_down_fits}
use Rattle.dsp_measure.proofs.SumLaws.{products-more}
use Rattle.dsp_measure.proofs.squares.add_squares31.Goals as goal

pub loop-x-preserved : goal.loop-x-preserved
loop-x-preserved g c =
    let n = c.loop-x.x-index in
    let numbers = c.args.numbers.now in
    let x = sample numbers n in
    let rise = c.loop-x.invariant.steps in
    let one = c.product.ensures.steps in
    let taken : SFits w32 x = search rules in
    let made : SFits w64 c.product.result = search rules in
    let held = to_z w64 (of_z w64 c.product.result) in
    let square : held ≡ x *ℤ x = to_z-of_z made ∙ c.product.ensures.value ∙
    (λ i. to_z-of_z taken i *ℤ to_z-of_z taken i) in
    let fits : SFits w64 held = search (rules, to_z-of_z) in
    record {
      sum = products-more Q31 _ (to_z w64 c.loop-x.sum-bits) _ x x n (n + 1) numbers numbers refl (refl, refl)
          c.loop-x.invariant.sum
          (wrapping_add_onto w64 c.loop-x.sum-bits (shr_z held 16384) c.loop-x.auto.sum-fits.fits
          (shift_down_fits w64 held 16384 fits) ∙
          ap (λ p. wrap w64 (to_z w64 c.loop-x.sum-bits +ℤ (p >> 14))) square);
      steps = record {
        multiplies_rise = omega (arith, rise.multiplies_rise, one.multiplies_rise);
        turns_rise = omega (arith, rise.turns_rise, one.turns_rise);
      };
    }
