use Rattle.std.proofs.Common.{◌≡◌, ◌*◌, map, take}
use Rattle.dsp_defs.specs.Complex.{cmplx_conj}
use Rattle.dsp_complex.specs.Pairs.{re, im, interleaved}
use Rattle.dsp_complex.proofs.calls.conj.Given as goal

-- the numbers so far are written
abbrev pub invariant-loop-n : goal.invariant-loop-n
invariant-loop-n g l = take (l.n * 2) (map g.T.Sample.number l.out) ≡ interleaved l.n
    (λ n. cmplx_conj g.T.Sample.format (re (map g.T.Sample.number l.a) n) (im (map g.T.Sample.number l.a) n))
