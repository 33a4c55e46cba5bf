use Rattle.std.proofs.Common.{◌≡◌, ◌∙◌, ap, sym, ◌+◌, ◌*◌, ◌/◌, map, set, take, length, arith}
use Rattle.std.proofs.lemmas.List.{length-map, map-set, take_all}
use Rattle.dsp_defs.proofs.SumLemmas.{sample-map}
use Rattle.dsp_defs.specs.Complex.{cmplx_conj}
use Rattle.dsp_complex.specs.Pairs.{re, im, interleaved}
use Rattle.dsp_complex.proofs.Interleaved.{pair-more}
use Rattle.dsp_complex.proofs.calls.conj.Goals as goal

pub loop-n-preserved : goal.loop-n-preserved
loop-n-preserved g c =
    let N = g.T.Sample.number in
    let n = c.loop-n.n in
    let out = c.loop-n.out in
    let a = c.args.a.now in
    let f = λ (n : _). cmplx_conj g.T.Sample.format (re (map N a) n) (im (map N a) n) in
    let long_out = length-map out N in
    ap (take ((n + 1) * 2)) (map-set N (set out (n * 2) c.conjugate-given.result.re) (n * 2 + 1)
    c.conjugate-given.result.im ∙ ap (λ l. set l (n * 2 + 1) (N c.conjugate-given.result.im))
    (map-set N out (n * 2) c.conjugate-given.result.re))
    ∙ pair-more f n (map N out) (N c.conjugate-given.result.re) (N c.conjugate-given.result.im)
    (omega (arith, long_out)) c.loop-n.invariant
    (c.conjugate-given.ensures.re ∙ (λ i. (cmplx_conj g.T.Sample.format
    ((sample-map N a (n * 2) c.index-a-n.result (omega arith) c.index-a-n.is) i)
    ((sample-map N a (n * 2 + 1) c.index-a-n-in-loop-n.result (omega arith) c.index-a-n-in-loop-n.is) i)).0))
    (c.conjugate-given.ensures.im ∙ (λ i. (cmplx_conj g.T.Sample.format
    ((sample-map N a (n * 2) c.index-a-n.result (omega arith) c.index-a-n.is) i)
    ((sample-map N a (n * 2 + 1) c.index-a-n-in-loop-n.result (omega arith) c.index-a-n-in-loop-n.is) i)).1))

pub returns : goal.returns
returns g c =
    let N = g.T.Sample.number in
    let n = c.loop-n.n in
    let out = c.loop-n.out in
    let a = c.args.a.now in
    let f = λ (n : _). cmplx_conj g.T.Sample.format (re (map N a) n) (im (map N a) n) in
    let long_out = length-map out N in
    let all : n ≡ length c.args.out.now / 2 = omega arith in
    sym (take_all (n * 2) (map N out) (omega (arith, long_out, c.requires.pairs))) ∙ c.loop-n.invariant ∙
    ap (λ k. interleaved k f) all
