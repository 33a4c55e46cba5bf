use Rattle.std.proofs.Common.{◌≡◌, ◌∙◌, sym, subst, ◌+◌, ◌*◌, ◌<◌, length, arith, rules, SFits, to_z, of_z, to_z-of_z}
use Rattle.std.proofs.Common.{FitsSigned, w32}
use Rattle.dsp_defs.specs.Formats.{word}
use Rattle.dsp_defs.specs.Signal.{sample}
use Rattle.dsp_filter.proofs.FrameSamples.{values-more, fits-more}
use Rattle.dsp_vector.proofs.joins.join_pairs.Goals as goal

pub loop-n-preserved : goal.loop-n-preserved
loop-n-preserved g c =
    let n = c.loop-n.n in
    let out = c.loop-n.out in
    let samples = c.args.samples.now in
    let f = g.O.Join.value in
    let room : n < length out = omega arith in
    let v = to_z w32 (of_z w32 c.join.result) in
    let fits : SFits w32 c.join.result = search rules in
    let fits_a : SFits w32 (sample samples (n * 2)) = search rules in
    let fits_b : SFits w32 (sample samples (n * 2 + 1)) = search rules in
    let made : v ≡ c.join.result = to_z-of_z fits in
    record {
      values = values-more (λ n. f (sample samples (n * 2)) (sample samples (n * 2 + 1))) n out v room
          c.loop-n.invariant.values
          (made ∙ c.join.ensures.value ∙ (λ k. f (to_z-of_z fits_a k) (to_z-of_z fits_b k)));
      fits = fits-more (word g.T.Sample.format) n out v room c.loop-n.invariant.fits
          (subst (FitsSigned (word g.T.Sample.format)) (sym made) c.join.ensures.fits);
      steps = record {
        multiplies_rise = omega (arith, c.loop-n.invariant.steps, c.join.ensures.steps);
        turns_rise = omega (arith, c.loop-n.invariant.steps, c.join.ensures.steps);
      };
    }
