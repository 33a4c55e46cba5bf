use Rattle.std.proofs.Common.{◌∙◌, ap, sym, refl, arith, map, take}
use Rattle.std.proofs.lemmas.List.{length-map, map-set, take_all}
use lib.Lanes.{zip2}
use Rattle.dsp_defs.proofs.SumLemmas.{sample-map}
use Rattle.dsp_lanes.proofs.Groups.{zip2-one}
use Rattle.dsp_lanes.proofs.operations.join_each.Goals as goal

pub loop-i-preserved : goal.loop-i-preserved
loop-i-preserved g c =
    let N = g.T.Sample.number in
    let f = g.O.Join.value in
    let i = c.loop-i.i in
    let out = c.loop-i.out in
    let a = c.args.a.now in
    let b = c.args.b.now in
    let long_out = length-map out N in
    let long_a = length-map a N in
    let long_b = length-map b N in
    ap (take _) (map-set N out i c.join.result)
    ∙ zip2-one f i _ (map N out) (map N a) (map N b) (N c.join.result) refl (omega arith) (omega arith) (omega arith)
    c.loop-i.invariant
    (c.join.ensures ∙ (λ k. f (sample-map N a i c.index-a-i.result (omega arith) c.index-a-i.is k)
    (sample-map N b i c.index-b-i.result (omega arith) c.index-b-i.is k)))

pub returns : goal.returns
returns g c =
    let N = g.T.Sample.number in
    let i = c.loop-i.i in
    let long_out = length-map c.loop-i.out N in
    let long_a = length-map c.args.a.now N in
    let long_b = length-map c.args.b.now N in
    sym (take_all i (map N c.loop-i.out) (omega arith)) ∙ c.loop-i.invariant ∙
    (λ k. zip2 g.O.Join.value (take_all i (map N c.args.a.now) (omega arith) k)
    (take_all i (map N c.args.b.now) (omega arith) k))
