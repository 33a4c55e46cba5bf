use Rattle.std.proofs.Common.{◌∙◌, ap, sym, refl, arith, map, take}
use Rattle.std.proofs.lemmas.List.{length-map, map-set, take_all}
use Rattle.dsp_defs.proofs.SumLemmas.{sample-map}
use Rattle.dsp_lanes.proofs.Groups.{map-one}
use Rattle.dsp_lanes.proofs.operations.change_each.Goals as goal

pub loop-i-preserved : goal.loop-i-preserved
loop-i-preserved g c =
    let N = g.T.Sample.number in
    let f = g.O.Change.value c.args.operation in
    let i = c.loop-i.i in
    let out = c.loop-i.out in
    let a = c.args.a.now in
    let long_out = length-map out N in
    let long_a = length-map a N in
    ap (take _) (map-set N out i c.change.result)
    ∙ map-one f i _ (map N out) (map N a) (N c.change.result) refl (omega arith) (omega arith) c.loop-i.invariant
    (c.change.ensures ∙ ap f (sample-map N a i c.index-a-i.result (omega arith) c.index-a-i.is))

pub returns : goal.returns
returns g c =
    let N = g.T.Sample.number in
    let i = c.loop-i.i in
    let long_out = length-map c.loop-i.out N in
    let long_a = length-map c.args.a.now N in
    sym (take_all i (map N c.loop-i.out) (omega arith)) ∙ c.loop-i.invariant ∙
    ap (map (g.O.Change.value c.args.operation)) (take_all i (map N c.args.a.now) (omega arith))
