use Rattle.std.proofs.Common.{◌≡◌, ◌*◌, take}
use Rattle.dsp_defs.specs.Matrix.{multiplied}
use Rattle.dsp_defs.specs.Signal.{values}
use Rattle.dsp_lanes.specs.Turns.{RisesWithin}
use Rattle.dsp_matrix.proofs.paired_products.multiply_in_pairs.Given as goal

-- the pairs of rows so far are written and counted
abbrev pub invariant-loop-pair : goal.invariant-loop-pair
invariant-loop-pair g l = record {
  written : take (l.pair * (2 * l.given)) l.out ≡ values (l.pair * (2 * l.given))
      (multiplied l.columns l.given l.matrix l.a);
  counted : RisesWithin l.initial.steps l.steps (l.pair * (2 * l.given * l.columns))
      (l.pair * (2 * l.given * l.columns));
}
