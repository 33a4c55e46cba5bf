use Rattle.std.proofs.Common.{◌∙◌, ap, sym, arith, map, take}
use Rattle.std.proofs.lemmas.List.{length-map, map-set, take_all}
use Rattle.dsp_defs.proofs.SumLemmas.{sample-map}
use Rattle.dsp_defs.specs.Elementwise.{convert}
use Rattle.dsp_filter.proofs.FrameSamples.{map-more}
use Rattle.dsp_vector.proofs.conversions.convert_each.Goals as goal

pub loop-i-preserved : goal.loop-i-preserved
loop-i-preserved g c =
    let N = g.T.Sample.number in
    let M = g.U.Sample.number in
    let f = convert g.T.Sample.format g.U.Sample.format in
    let i = c.loop-i.i in
    let out = c.loop-i.out in
    let a = c.args.a.now in
    let long_out = length-map out M in
    let long_a = length-map a N in
    ap (take _) (map-set M out i c.converted.result)
    ∙ map-more f i (map M out) (map N a) (M c.converted.result) (omega arith) (omega arith) c.loop-i.invariant
    (c.converted.ensures ∙ ap f (sample-map N a i c.index-a-i.result (omega arith) c.index-a-i.is))

pub returns : goal.returns
returns g c =
    let N = g.T.Sample.number in
    let M = g.U.Sample.number in
    let i = c.loop-i.i in
    let long_out = length-map c.loop-i.out M in
    let long_a = length-map c.args.a.now N in
    sym (take_all i (map M c.loop-i.out) (omega arith)) ∙ c.loop-i.invariant ∙
    ap (map (convert g.T.Sample.format g.U.Sample.format)) (take_all i (map N c.args.a.now) (omega arith))
