use Rattle.std.proofs.Common.{◌≡◌, ◌+◌, ◌*◌, ◌<◌, ℕ, FitsSigned}
use Rattle.dsp_defs.specs.Formats.{word}
use Rattle.dsp_defs.specs.Signal.{sample, values}
use Rattle.dsp_lanes.specs.Turns.{RisesWithin}
use Rattle.dsp_complex.proofs.frames.give_frames.Given as goal

-- the frames so far are written
abbrev pub invariant-loop-n : goal.invariant-loop-n
invariant-loop-n g l = record {
  values : (m c : ℕ) → m < l.n → c < g.O.FrameOperation.GIVEN →
      sample l.out (m * g.O.FrameOperation.GIVEN + c) ≡ sample
      (g.O.FrameOperation.value (values g.O.FrameOperation.TAKEN
      (λ k. sample l.frames (m * g.O.FrameOperation.TAKEN + k)))) c;
  fits : (m c : ℕ) → m < l.n → c < g.O.FrameOperation.GIVEN →
      FitsSigned (word g.T.Sample.format) (sample l.out (m * g.O.FrameOperation.GIVEN + c));
  steps : RisesWithin l.initial.steps l.steps (l.n * g.O.FrameOperation.price) (l.n * g.O.FrameOperation.price);
}
