use Rattle.std.proofs.Common.{◌≡◌, map, take}
use Rattle.std.specs.Simd.Lanes.{zip2}
use Rattle.dsp_lanes.proofs.operations.join_each.Given as goal

abbrev pub invariant-loop-i : goal.invariant-loop-i
invariant-loop-i g l = take l.i (map g.T.Sample.number l.out) ≡ zip2 g.O.Join.value
    (take l.i (map g.T.Sample.number l.a)) (take l.i (map g.T.Sample.number l.b))
