use Rattle.std.proofs.Common.{◌≡◌, ◌-◌, ◌∙◌, ap, refl, sym, length, map, take, arith, SFits, rules, take_all}
use Rattle.std.specs.Int.{w64}
use Rattle.std.proofs.lemmas.Int.{to_z-of_z}
use Rattle.std.proofs.lemmas.List.{length-map}
use Rattle.dsp_defs.specs.Signal.{sample, values}
use Rattle.dsp_defs.proofs.SumLemmas.{sample-map}
use Rattle.dsp_lanes.proofs.LaneRows.{rows-one}
use Rattle.dsp_adapt.proofs.LmsSteps.{reversed-is}
use Rattle.dsp_adapt.proofs.weights.keep_reversed.Goals as goal

pub loop-k-preserved : goal.loop-k-preserved
loop-k-preserved g c =
    let T = g.T.Sample in
    let k = c.loop-k.k in
    let out = c.loop-k.out in
    let weights = c.args.weights.now in
    let place = length weights - 1 - k in
    let read = c.index-weights-weights in
    let fits : SFits w64 c.number_of.result = search rules in
    rows-one (λ j. sample (map T.number weights) (length weights - 1 - j)) k _ out _ refl (omega arith)
    c.loop-k.invariant
    (to_z-of_z w64 c.number_of.result fits ∙ c.number_of.ensures ∙
    sample-map T.number weights place read.result (omega arith) read.is)

pub returns : goal.returns
returns g c =
    let number = g.T.Sample.number in
    let out = c.loop-k.out in
    let weights = c.args.weights.now in
    let long : length (map number weights) ≡ length weights = length-map weights number in
    let all : c.loop-k.k ≡ length weights = omega arith in
    sym (take_all (length weights) out (omega arith))
    ∙ ap (λ n. take n out) (sym all)
    ∙ c.loop-k.invariant
    ∙ ap (λ n. values n (λ k. sample (map number weights) (length weights - 1 - k))) all
    ∙ ap (λ n. values n (λ k. sample (map number weights) (n - 1 - k))) (sym long)
    ∙ reversed-is (map number weights)
