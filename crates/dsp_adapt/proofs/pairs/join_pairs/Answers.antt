use Rattle.std.proofs.Common.{◌∙◌, ◌<◌, ◌+◌, ◌*◌, [], ◌∷◌, ap₂, sym, subst, ℤ, pos, length, map, arith}
use Rattle.std.specs.Prelude.{FitsSigned}
use Rattle.std.specs.Int.{w32}
use Rattle.std.proofs.lemmas.Int.{to_z-of_z}
use Rattle.std.proofs.lemmas.List.{get_or_default}
use Rattle.dsp_defs.specs.Block.{pair_frame}
use Rattle.dsp_defs.specs.Formats.{word}
use Rattle.dsp_defs.specs.Signal.{sample}
use Rattle.dsp_defs.proofs.SumLemmas.{sample-map}
use Rattle.dsp_adapt.proofs.LmsUnits.{both-fit, frames-two, left-more, right-more}
use Rattle.dsp_adapt.proofs.pairs.join_pairs.Goals as goal
use Rattle.dsp_sat.proofs.WideProducts.{word-in-32}

pub loop-n-preserved : goal.loop-n-preserved
loop-n-preserved g c =
    let T = g.T.Sample in
    let n = c.loop-n.n in
    let out = c.loop-n.out in
    let left = c.number in
    let right = c.number-in-loop-n in
    let first = c.index-first-n in
    let second = c.index-second-n in
    let so_far = c.loop-n.invariant in
    let Fits : ℤ → Type 0 = FitsSigned (word T.format) in
    let left_is = to_z-of_z w32 left.result (word-in-32 T.format left.result left.ensures.fits) in
    let right_is = to_z-of_z w32 right.result (word-in-32 T.format right.result right.ensures.fits) in
    let room : n * 2 + 1 < length out = omega arith in
    record {
      left = left-more out n _ _ room (sample (map T.number c.args.first.now)) so_far.left
          (left_is ∙ left.ensures.value ∙ sample-map T.number c.args.first.now n first.result (omega arith) first.is);
      right = right-more out n _ _ room (sample (map T.number c.args.second.now)) so_far.right
          (right_is ∙ right.ensures.value ∙ sample-map T.number c.args.second.now n second.result (omega arith)
          second.is);
      fits = both-fit out n _ _ room Fits so_far.fits (subst Fits (sym left_is) left.ensures.fits)
          (subst Fits (sym right_is) right.ensures.fits);
    }

pub returns-clause-frames : goal.returns-clause-frames
returns-clause-frames g c =
    let T = g.T.Sample in
    let count = length c.args.first.now in
    frames-two count c.loop-n.out (λ k. pair_frame (
      sample (map T.number c.args.first.now) k,
      sample (map T.number c.args.second.now) k,
    )) (omega arith)
    (λ k h. ap₂ (λ a b. a ∷ b ∷ []) (sym (c.loop-n.invariant.left k (omega arith)))
    (sym (c.loop-n.invariant.right k (omega arith))))

pub returns-clause-in_format : goal.returns-clause-in_format
returns-clause-in_format g c = λ k d h.
    subst (FitsSigned (word g.T.Sample.format)) (sym (get_or_default c.loop-n.out k d (pos 0) h))
    (c.loop-n.invariant.fits k (omega arith))
