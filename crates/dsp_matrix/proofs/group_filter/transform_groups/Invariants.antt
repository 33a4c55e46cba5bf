use Rattle.std.proofs.Common.{◌≡◌, ◌*◌, ◌/◌, ◌%◌, map, take, drop}
use Rattle.dsp_defs.specs.Signal.{values}
use Rattle.dsp_lanes.specs.Turns.{RisesWithin}
use Rattle.dsp_matrix.proofs.group_filter.transform_groups.Given as goal

-- what the groups so far become is written and counted
abbrev pub invariant-loop-group : goal.invariant-loop-group
invariant-loop-group g l =
    let of = g.W.GroupWork.group (g.W.GroupWork.block l.work) in
    record {
      written : take (l.group * of.given) (map g.T.Sample.number l.output) ≡ values (l.group * of.given)
          (λ i. of.result (take of.taken (drop (i / of.given * of.taken) (map g.T.Sample.number l.input)))
          (i % of.given));
      counted : RisesWithin l.initial.steps l.steps (l.group * of.products) (l.group * of.products);
    }
