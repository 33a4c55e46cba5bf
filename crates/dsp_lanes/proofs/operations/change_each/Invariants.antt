use Rattle.std.proofs.Common.{◌≡◌, map, take}
use Rattle.dsp_lanes.proofs.operations.change_each.Given as goal

abbrev pub invariant-loop-i : goal.invariant-loop-i
invariant-loop-i g l = take l.i (map g.T.Sample.number l.out) ≡ map (g.O.Change.value l.operation)
    (take l.i (map g.T.Sample.number l.a))
