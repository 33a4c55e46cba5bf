use Rattle.std.proofs.Common.{◌≡◌, ◌-◌, length, map, take}
use Rattle.dsp_defs.specs.Signal.{sample, values}
use Rattle.dsp_adapt.proofs.weights.keep_reversed.Given as goal

-- the numbers so far are written
abbrev pub invariant-loop-k : goal.invariant-loop-k
invariant-loop-k g l = take l.k l.out ≡ values l.k (λ k. sample (map g.T.Sample.number l.weights)
    (length l.weights - 1 - k))
