use Rattle.std.proofs.Common.{◌≤◌, ◌+◌, ◌*◌, ◌<◌, ℕ, length, map}
use Rattle.std.specs.Prelude.{FitsSigned}
use Rattle.dsp_defs.specs.Formats.{word}
use Rattle.dsp_defs.specs.Signal.{sample}
use Rattle.dsp_filter.proofs.Rounds.{FinishedSoFar}
use Rattle.dsp_filter.proofs.channels.finish_channels.Given as goal

-- the channels so far gave equally many values of their tails
abbrev pub invariant-loop-channel : goal.invariant-loop-channel
invariant-loop-channel g l = record {
  within : l.given ≤ length l.initial.output;
  finished : FinishedSoFar (map g.F.Filter.filter l.initial.filters) (map g.F.Filter.filter l.filters) l.channel
      l.given l.out l.initial.steps l.steps;
  fits : (n c : ℕ) → n < l.given → c < l.channel → FitsSigned (word g.T.Sample.format)
      (sample l.out (n * l.channels + c));
}
