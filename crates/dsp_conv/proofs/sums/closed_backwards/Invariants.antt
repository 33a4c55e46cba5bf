use Rattle.std.proofs.Common.{◌≡◌, ◌*ℤ◌, map, reverse}
use Rattle.dsp_defs.specs.Counts.{Rises}
use Rattle.dsp_defs.specs.Formats.{accumulator}
use Rattle.dsp_defs.specs.Numbers.{wrap}
use Rattle.dsp_defs.specs.Signal.{sample, sum_below}
use Rattle.dsp_conv.proofs.sums.closed_backwards.Given as goal

-- the products so far are summed and counted
abbrev pub invariant-loop-k : goal.invariant-loop-k
invariant-loop-k g l = record {
  sum : g.T.Sample.total l.sum ≡ wrap (accumulator g.T.Sample.format)
      (sum_below l.k (λ j. sample (map g.T.Sample.number l.a) j *ℤ sample (reverse (map g.T.Sample.number l.b)) j));
  steps : Rises l.initial.steps l.steps l.k l.k;
}
