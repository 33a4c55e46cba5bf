use Rattle.std.proofs.Common.{◌≡◌, map, take}
use Rattle.dsp_defs.specs.Signal.{sample, values}
use Rattle.dsp_defs.specs.Sums.{sparse_close}
use Rattle.dsp_fir.proofs.delayed_rows.close_sums.Given as goal

-- the samples so far are written
abbrev pub invariant-loop-i : goal.invariant-loop-i
invariant-loop-i g l = take l.i (map g.T.Sample.number l.out) ≡ values l.i
    (λ k. sparse_close g.T.Sample.format (sample l.sums k))
