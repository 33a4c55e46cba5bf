use Rattle.std.proofs.Common.{◌≡◌, ◌*◌, map, take}
use Rattle.dsp_defs.specs.Signal.{values}
use Rattle.dsp_lanes.specs.Turns.{RisesWithin}
use Rattle.dsp_matrix.specs.Matrices.{product_element}
use Rattle.dsp_matrix.proofs.products.multiply.Given as goal

-- the rows so far are written and counted
abbrev pub invariant-loop-row : goal.invariant-loop-row
invariant-loop-row g l =
    let number = g.T.Sample.number in
    record {
      written : take (l.row * l.given) (map number l.out) ≡ values (l.row * l.given)
          (product_element g.T.Sample.format g.O.Order.place l.columns l.given (map number l.a) (map number l.matrix));
      counted : RisesWithin l.initial.steps l.steps (l.row * (l.given * l.columns)) (l.row * (l.given * l.columns));
    }
