use Rattle.std.proofs.Common.{◌≡◌, ◌∙◌, ◌++◌, ap, pos, [], ◌∷◌, map, replicate, arith}
use Rattle.std.proofs.lemmas.List.{map_push, replicate_more}
use Rattle.dsp_lattice.proofs.numbers.zeros.Goals as goal

pub loop-preserved : goal.loop-preserved
loop-preserved g c =
    let number = g.T.Sample.number in
    ap (map number) c.in_ok-push.ensures.items
    ∙ map_push number c.loop.zeros.items c.zero.result
    ∙ (λ j. c.loop.invariant j ++ (c.zero.ensures j ∷ []))
    ∙ replicate_more c.loop.counter (pos 0)

pub returns : goal.returns
returns g c =
    let all : c.loop.counter ≡ c.args.count = omega arith in
    c.loop.invariant ∙ ap (λ n. replicate n (pos 0)) all
