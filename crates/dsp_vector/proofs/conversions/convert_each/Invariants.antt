use Rattle.std.proofs.Common.{◌≡◌, map, take}
use Rattle.dsp_defs.specs.Elementwise.{convert}
use Rattle.dsp_vector.proofs.conversions.convert_each.Given as goal

-- the samples so far are written
abbrev pub invariant-loop-i : goal.invariant-loop-i
invariant-loop-i g l = take l.i (map g.U.Sample.number l.out) ≡ map (convert g.T.Sample.format g.U.Sample.format)
    (take l.i (map g.T.Sample.number l.a))
