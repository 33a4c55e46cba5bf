use Rattle.std.proofs.Common.{◌≡◌, ◌≢◌, ◌+◌, ◌*◌, ◌<◌, ℕ}
use Rattle.dsp_defs.specs.Signal.{sample}
use Rattle.dsp_vector.proofs.routes.copy_channel.Given as goal

-- the samples so far are written, and no other channel is touched
abbrev pub invariant-loop-n : goal.invariant-loop-n
invariant-loop-n l = record {
  here : (n : ℕ) → n < l.n → sample l.out (n * l.width + l.to) ≡ sample l.frames (n * l.channels + l.from);
  elsewhere : (n c : ℕ) → c < l.width → c ≢ l.to → sample l.out (n * l.width + c) ≡ sample l.initial.out
      (n * l.width + c);
}
