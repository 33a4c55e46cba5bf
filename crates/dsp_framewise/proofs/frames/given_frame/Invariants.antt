use Rattle.std.proofs.Common.{◌≡◌, ◌+◌, ◌*◌, ◌<◌, ◌≤◌, ℕ}
use Rattle.std.specs.Prelude.{FitsSigned}
use Rattle.dsp_defs.specs.Block.{format_after, given_frame}
use Rattle.dsp_defs.specs.Formats.{word}
use Rattle.dsp_defs.specs.Signal.{sample}
use Rattle.dsp_framewise.specs.Framewise.{sample_price}
use Rattle.dsp_framewise.proofs.frames.given_frame.Given as goal

-- the samples so far
abbrev pub invariant-loop-j : goal.invariant-loop-j
invariant-loop-j g l = record {
  values : (k : ℕ) → k < l.j → sample l.given k ≡ sample (given_frame l.format l.block l.frame) k;
  fits : (k : ℕ) → k < l.j → FitsSigned (word (format_after l.format l.block)) (sample l.given k);
  products : l.steps.multiplies ≤ l.initial.steps.multiplies + l.j * sample_price l.block;
}
