use Rattle.std.proofs.Common.{◌≡◌, ◌-◌, length, map, take}
use Rattle.dsp_defs.specs.Signal.{sample, values}
use Rattle.dsp_adapt.proofs.weights.restore_reversed.Given as goal

-- the weights so far are read
abbrev pub invariant-loop-k : goal.invariant-loop-k
invariant-loop-k g l = take l.k (map g.T.Sample.number l.weights) ≡ values l.k
    (λ k. sample l.numbers (length l.numbers - 1 - k))
