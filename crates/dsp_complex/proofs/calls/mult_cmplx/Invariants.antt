use Rattle.std.proofs.Common.{◌≡◌, ◌*◌, map, take}
use Rattle.dsp_defs.specs.Complex.{cmplx_mult}
use Rattle.dsp_lanes.specs.Turns.{RisesWithin}
use Rattle.dsp_complex.specs.Pairs.{re, im, interleaved}
use Rattle.dsp_complex.proofs.calls.mult_cmplx.Given as goal

-- the numbers so far are written
abbrev pub invariant-loop-n : goal.invariant-loop-n
invariant-loop-n g l = record {
  out : take (l.n * 2) (map g.T.Sample.number l.out) ≡ interleaved l.n
      (λ n. cmplx_mult g.T.Sample.format (re (map g.T.Sample.number l.a) n) (im (map g.T.Sample.number l.a) n)
      (re (map g.T.Sample.number l.b) n) (im (map g.T.Sample.number l.b) n));
  steps : RisesWithin l.initial.steps l.steps (4 * l.n) (4 * l.n);
}
