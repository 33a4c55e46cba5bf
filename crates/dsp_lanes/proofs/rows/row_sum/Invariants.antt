use Rattle.std.proofs.Common.{◌≡◌, ◌+◌, ◌*ℤ◌, map}
use Rattle.dsp_defs.specs.Numbers.{wrap}
use Rattle.dsp_defs.specs.Formats.{accumulator}
use Rattle.dsp_defs.specs.Signal.{sample, sum_below}
use Rattle.dsp_defs.specs.Counts.{Rises}
use Rattle.dsp_lanes.proofs.rows.row_sum.Given as goal

-- the taps so far are summed and counted
abbrev pub invariant-loop-j : goal.invariant-loop-j
invariant-loop-j g l = record {
  summed : g.T.Sample.total l.sum ≡ wrap (accumulator g.T.Sample.format)
      (sum_below l.j (λ j. sample (map g.T.Sample.number l.taps) j *ℤ sample (map g.T.Sample.number l.window)
      (l.at + j)));
  counted : Rises l.initial.steps l.steps l.j l.j;
}
