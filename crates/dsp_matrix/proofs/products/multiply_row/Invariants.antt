use Rattle.std.proofs.Common.{◌≡◌, ◌*◌, length, map, take}
use Rattle.std.specs.Prelude.{◌*ℤ◌}
use Rattle.dsp_defs.specs.Formats.{close}
use Rattle.dsp_defs.specs.Signal.{sample, sum_below, values}
use Rattle.dsp_lanes.specs.Turns.{RisesWithin}
use Rattle.dsp_matrix.proofs.products.multiply_row.Given as goal

-- the elements so far are written and counted
abbrev pub invariant-loop-l : goal.invariant-loop-l
invariant-loop-l g l =
    let number = g.T.Sample.number in
    record {
      written : take l.l (map number l.out) ≡ values l.l
          (λ i. close g.T.Sample.format (sum_below (length l.row)
          (λ k. sample (map number l.row) k *ℤ sample (map number l.matrix)
          (g.O.Order.place (length l.row) l.given k i))));
      counted : RisesWithin l.initial.steps l.steps (l.l * length l.row) (l.l * length l.row);
    }
