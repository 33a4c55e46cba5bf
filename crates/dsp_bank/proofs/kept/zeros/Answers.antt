use Rattle.std.proofs.Common.{◌≡◌, ◌∙◌, ◌++◌, ap, pos, [], ◌∷◌, length, map, replicate, arith, length-append}
use Rattle.std.proofs.lemmas.List.{map_push, replicate_more}
use Rattle.dsp_bank.proofs.kept.zeros.Goals as goal

pub loop-preserved : goal.loop-preserved
loop-preserved g c =
    let number = g.T.Sample.number in
    let so_far = c.loop.invariant in
    record {
      zeros = ap (map number) c.in_ok-push.ensures.items ∙ map_push number c.loop.zeros.items c.zero.result
          ∙ (λ j. so_far.zeros j ++ (c.zero.ensures j ∷ [])) ∙ replicate_more c.loop.counter (pos 0);
      size = ap length c.in_ok-push.ensures.items
          ∙ omega (arith, length-append c.loop.zeros.items (c.zero.result ∷ []), so_far.size);
    }

pub returns-clause-zeros : goal.returns-clause-zeros
returns-clause-zeros g c =
    let all : c.loop.counter ≡ c.args.count = omega arith in
    c.loop.invariant.zeros ∙ ap (λ n. replicate n (pos 0)) all
