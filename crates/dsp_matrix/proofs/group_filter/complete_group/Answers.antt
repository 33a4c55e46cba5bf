use Rattle.std.proofs.Common.{◌∙◌, ap, sym, length, map, drop, arith, drop_at, length-take-le}
use Rattle.std.proofs.lemmas.List.{length-map}
use Rattle.dsp_filter.proofs.Slices.{front-written}
use Rattle.dsp_matrix.specs.Groups.{given_group}
use Rattle.dsp_matrix.proofs.group_filter.complete_group.Goals as goal

pub transform-requires-clause-taken : goal.transform-requires-clause-taken
transform-requires-clause-taken g c =
    sym (length-map c.as_slice.result.now g.T.Sample.number) ∙ ap length c.as_slice.ensures ∙ c.requires.whole

pub returns-clause-out : goal.returns-clause-out
returns-clause-out g c =
    let of = g.W.GroupWork.group (g.W.GroupWork.block c.args.work.now) in
    let long = c.transform.auto.out ∙
    length-take-le c.given-given.result c.args.output.now (omega (arith, c.given-given.ensures, c.requires.room)) in
    ap (map g.T.Sample.number) (front-written c.given-given.result c.transform.new.out c.args.output.now long)
    ∙ c.transform.ensures.out ∙ ap (given_group of) c.as_slice.ensures

pub returns-clause-rest : goal.returns-clause-rest
returns-clause-rest g c =
    let long = c.transform.auto.out ∙
    length-take-le c.given-given.result c.args.output.now (omega (arith, c.given-given.ensures, c.requires.room)) in
    drop_at c.transform.new.out (drop c.given-given.result c.args.output.now) c.given-given.result long
