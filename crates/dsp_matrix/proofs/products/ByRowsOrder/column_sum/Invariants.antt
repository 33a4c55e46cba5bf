use Rattle.std.proofs.Common.{◌≡◌, ◌+◌, ◌*◌, map}
use Rattle.std.specs.Prelude.{◌*ℤ◌}
use Rattle.dsp_defs.specs.Formats.{accumulator}
use Rattle.dsp_defs.specs.Numbers.{wrap}
use Rattle.dsp_defs.specs.Signal.{sample, sum_below}
use Rattle.dsp_lanes.specs.Turns.{RisesWithin}
use Rattle.dsp_matrix.proofs.products.ByRowsOrder.column_sum.Given as goal

-- the products so far are summed and counted
abbrev pub invariant-loop-k : goal.invariant-loop-k
invariant-loop-k g l =
    let T = g.T.Sample in
    record {
      summed : T.total l.sum ≡ wrap (accumulator T.format)
          (sum_below l.k (λ k. sample (map T.number l.row) k *ℤ sample (map T.number l.matrix)
          (k * l.given + l.column)));
      counted : RisesWithin l.initial.steps l.steps l.k l.k;
    }
