use Rattle.std.proofs.Common.{◌≡◌, ◌+◌, ◌*◌, map, take}
use Rattle.dsp_defs.specs.Signal.{sample, values}
use Rattle.dsp_filter.proofs.channels.take_strided.Given as goal

-- the samples so far are read
abbrev pub invariant-loop-n : goal.invariant-loop-n
invariant-loop-n g l = map g.T.Sample.number (take l.n l.input) ≡ values l.n
    (λ n. sample l.frames (n * l.channels + l.channel))
