use Rattle.std.proofs.Common.{◌≡◌, ◌≢◌, ◌+◌, ◌*◌, ◌<◌, ℕ, map}
use Rattle.dsp_defs.specs.Signal.{sample}
use Rattle.std.specs.Prelude.{FitsSigned}
use Rattle.dsp_defs.specs.Formats.{word}
use Rattle.dsp_filter.proofs.channels.put_strided.Given as goal

-- the samples so far are written, and no other channel is touched
abbrev pub invariant-loop-n : goal.invariant-loop-n
invariant-loop-n g l = record {
  here : (n : ℕ) → n < l.n → sample l.out (n * l.channels + l.channel) ≡ sample (map g.T.Sample.number l.output) n;
  fits : (n : ℕ) → n < l.n → FitsSigned (word g.T.Sample.format) (sample l.out (n * l.channels + l.channel));
  elsewhere : (n c : ℕ) → c < l.channels → c ≢ l.channel →
      sample l.out (n * l.channels + c) ≡ sample l.initial.out (n * l.channels + c);
}
