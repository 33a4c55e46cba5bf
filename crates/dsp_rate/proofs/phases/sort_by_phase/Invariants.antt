use Rattle.std.proofs.Common.{◌≡◌, ◌-◌, ◌+◌, ◌*◌, ◌/◌, ◌%◌, map}
use Rattle.dsp_defs.specs.Signal.{sample, values}
use Rattle.dsp_rate.proofs.phases.sort_by_phase.Given as goal

-- the taps so far stand in their order
abbrev pub invariant-loop-i : goal.invariant-loop-i
invariant-loop-i g l = map g.T.Sample.number l.phases.items ≡ values l.i
    (λ i. sample (map g.T.Sample.number l.taps) (l.factor - 1 - i / l.count + i % l.count * l.factor))
