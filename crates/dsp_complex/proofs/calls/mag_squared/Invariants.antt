use Rattle.std.proofs.Common.{◌≡◌, ◌*◌, map, take}
use Rattle.dsp_defs.specs.Signal.{values}
use Rattle.dsp_defs.specs.Complex.{cmplx_mag_squared}
use Rattle.dsp_lanes.specs.Turns.{RisesWithin}
use Rattle.dsp_complex.specs.Pairs.{re, im}
use Rattle.dsp_complex.proofs.calls.mag_squared.Given as goal

-- the numbers so far are written
abbrev pub invariant-loop-n : goal.invariant-loop-n
invariant-loop-n g l = record {
  out : take l.n (map g.T.Sample.number l.out) ≡ values l.n
      (λ n. cmplx_mag_squared g.T.Sample.format (re (map g.T.Sample.number l.a) n) (im (map g.T.Sample.number l.a) n));
  steps : RisesWithin l.initial.steps l.steps (2 * l.n) (2 * l.n);
}
