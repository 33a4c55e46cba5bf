use Rattle.std.proofs.Common.{◌≡◌, ◌*◌, take}
use Rattle.dsp_defs.specs.Signal.{sample}
use Rattle.dsp_defs.specs.Complex.{cmplx_mult_real}
use Rattle.dsp_lanes.specs.Turns.{RisesWithin}
use Rattle.dsp_complex.specs.Pairs.{re, im, interleaved}
use Rattle.dsp_complex.proofs.calls.mult_real.Given as goal

-- the numbers so far are written
abbrev pub invariant-loop-n : goal.invariant-loop-n
invariant-loop-n g l = record {
  out : take (l.n * 2) l.out ≡ interleaved l.n (λ n. cmplx_mult_real (re l.a n) (im l.a n) (sample l.r n));
  steps : RisesWithin l.initial.steps l.steps (2 * l.n) (2 * l.n);
}
