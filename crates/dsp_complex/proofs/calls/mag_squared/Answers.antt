use Rattle.std.proofs.Common.{◌≡◌, ◌∙◌, ap, sym, ◌+◌, ◌*◌, map, take, length, arith}
use Rattle.std.proofs.lemmas.List.{length-map, map-set, take_all}
use Rattle.dsp_defs.proofs.SumLemmas.{sample-map}
use Rattle.dsp_defs.specs.Signal.{values}
use Rattle.dsp_defs.specs.Complex.{cmplx_mag_squared}
use Rattle.dsp_complex.specs.Pairs.{re, im}
use Rattle.dsp_filter.proofs.FrameSamples.{values-more}
use Rattle.dsp_complex.proofs.calls.mag_squared.Goals as goal

pub loop-n-preserved : goal.loop-n-preserved
loop-n-preserved g c =
    let N = g.T.Sample.number in
    let n = c.loop-n.n in
    let out = c.loop-n.out in
    let a = c.args.a.now in
    let f = λ (n : _). cmplx_mag_squared g.T.Sample.format (re (map N a) n) (im (map N a) n) in
    let long_out = length-map out N in
    record {
      out = ap (take (n + 1)) (map-set N out n c.squared.result)
          ∙ values-more f n (map N out) (N c.squared.result) (omega (arith, long_out)) c.loop-n.invariant.out
          (c.squared.ensures.value ∙ (λ i. cmplx_mag_squared g.T.Sample.format
          ((sample-map N a (n * 2) c.index-a-n.result (omega arith) c.index-a-n.is) i)
          ((sample-map N a (n * 2 + 1) c.index-a-n-in-loop-n.result (omega arith) c.index-a-n-in-loop-n.is) i)));
      steps = record {
        multiplies_rise = omega (
          arith,
          c.loop-n.invariant.steps.multiplies_rise,
          c.squared.ensures.steps.multiplies_rise,
        );
        turns_within = omega (arith, c.loop-n.invariant.steps.turns_within, c.squared.ensures.steps.turns_rise);
      };
    }

pub returns-clause-out : goal.returns-clause-out
returns-clause-out g c =
    let N = g.T.Sample.number in
    let n = c.loop-n.n in
    let out = c.loop-n.out in
    let a = c.args.a.now in
    let f = λ (n : _). cmplx_mag_squared g.T.Sample.format (re (map N a) n) (im (map N a) n) in
    let long_out = length-map out N in
    let all : n ≡ length c.args.out.now = omega arith in
    sym (take_all n (map N out) (omega (arith, long_out))) ∙ c.loop-n.invariant.out ∙ ap (λ k. values k f) all
