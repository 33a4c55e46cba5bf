use Rattle.std.proofs.Common.{◌≡◌, ◌∙◌, ap, sym, ◌+◌, ◌*◌, ◌*ℤ◌, length, arith, rules, SFits, to_z-of_z, w16}
use Rattle.std.proofs.lemmas.List.{take_all}
use Rattle.dsp_defs.specs.Numbers.{saturate, ◌>>◌}
use Rattle.dsp_defs.specs.Signal.{sample}
use Rattle.dsp_defs.specs.Complex.{cmplx_mult_real}
use Rattle.dsp_complex.specs.Pairs.{re, im, interleaved}
use Rattle.dsp_complex.proofs.Interleaved.{pair-more}
use Rattle.dsp_complex.proofs.calls.mult_real.Goals as goal

pub loop-n-preserved : goal.loop-n-preserved
loop-n-preserved g c =
    let n = c.loop-n.n in
    let out = c.loop-n.out in
    let a = c.args.a.now in
    let r = c.args.r.now in
    let f = λ (n : _). cmplx_mult_real (re a n) (im a n) (sample r n) in
    let fits_re : SFits w16 (sample a (n * 2)) = search rules in
    let fits_im : SFits w16 (sample a (n * 2 + 1)) = search rules in
    let fits_r : SFits w16 (sample r n) = search rules in
    let fits_first : SFits w16 c.mult.result = search rules in
    let fits_second : SFits w16 c.mult-in-loop-n.result = search rules in
    record {
      out = pair-more f n out _ _ (omega (arith, c.requires.room)) c.loop-n.invariant.out
          (to_z-of_z fits_first ∙ c.mult.ensures.value ∙ (λ i. saturate 16
          (to_z-of_z fits_re i *ℤ to_z-of_z fits_r i >> 15)))
          (to_z-of_z fits_second ∙ c.mult-in-loop-n.ensures.value ∙
          (λ i. saturate 16 (to_z-of_z fits_im i *ℤ to_z-of_z fits_r i >> 15)));
      steps = record {
        multiplies_rise = omega (
          arith,
          c.loop-n.invariant.steps.multiplies_rise,
          c.mult.ensures.steps.multiplies_rise,
          c.mult-in-loop-n.ensures.steps.multiplies_rise,
        );
        turns_within = omega (
          arith,
          c.loop-n.invariant.steps.turns_within,
          c.mult.ensures.steps.turns_rise,
          c.mult-in-loop-n.ensures.steps.turns_rise,
        );
      };
    }

pub returns-clause-out : goal.returns-clause-out
returns-clause-out g c =
    let n = c.loop-n.n in
    let out = c.loop-n.out in
    let a = c.args.a.now in
    let r = c.args.r.now in
    let f = λ (n : _). cmplx_mult_real (re a n) (im a n) (sample r n) in
    let all : n ≡ length r = omega arith in
    sym (take_all (n * 2) out (omega (arith, c.requires.room))) ∙ c.loop-n.invariant.out ∙ ap (λ k. interleaved k f) all
