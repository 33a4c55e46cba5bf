use Rattle.std.proofs.Common.{◌≡◌, ◌∙◌, ap, sym, subst, ◌<◌, length, arith, rules, SFits, to_z, of_z, to_z-of_z}
use Rattle.std.proofs.Common.{FitsSigned, w32}
use Rattle.dsp_defs.specs.Formats.{word}
use Rattle.dsp_defs.specs.Signal.{sample}
use Rattle.dsp_filter.proofs.FrameSamples.{map-more, fits-more}
use Rattle.dsp_vector.proofs.changes.change_each.Goals as goal

pub loop-i-preserved : goal.loop-i-preserved
loop-i-preserved g c =
    let i = c.loop-i.i in
    let out = c.loop-i.out in
    let samples = c.args.samples.now in
    let f = g.O.Change.value c.args.operation in
    let room : i < length out = omega arith in
    let x = to_z w32 (of_z w32 (sample samples i)) in
    let fits_taken : SFits w32 (sample samples i) = search rules in
    let fits : SFits w32 c.change.result = search rules in
    let taken : x ≡ sample samples i = to_z-of_z fits_taken in
    let made : to_z w32 (of_z w32 c.change.result) ≡ c.change.result = to_z-of_z fits in
    record {
      values = map-more f i out samples (to_z w32 (of_z w32 c.change.result)) room c.loop-i-test.true
          c.loop-i.invariant.values
          (made ∙ c.change.ensures.value ∙ ap f taken);
      fits = fits-more (word g.U.Sample.format) i out (to_z w32 (of_z w32 c.change.result)) room c.loop-i.invariant.fits
          (subst (FitsSigned (word g.U.Sample.format)) (sym made) c.change.ensures.fits);
      steps = record {
        multiplies_rise = omega (arith, c.loop-i.invariant.steps, c.change.ensures.steps);
        turns_rise = omega (arith, c.loop-i.invariant.steps, c.change.ensures.steps);
      };
    }
